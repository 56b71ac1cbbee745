-- The whole promise of a request that is run. Assumes nothing.
use Rattle.std.proofs.Common.{◌≡◌, ℕ, ◌+◌, ◌<◌, ◌≤◌, ◌^◌, List, length, map, take, Some, Result, refl, sym, ap, ◌∙◌, arith}
use Rattle.std.proofs.lemmas.List.{length-map}
use Rattle.std.proofs.lemmas.List.Elements.{All-weaker}
use Rattle.model.specs.declared.order.Order.{Order}
use Rattle.model.specs.Config.{empty}
use Rattle.model.specs.Runs.{after}
use Rattle.model.proofs.Counting.{bindings_none}
use Rattle.hosts.specs.Survey.{Lawful, Situation, bindings_of}
use Rattle.hosts.specs.Service.{Sane, Service}
use Rattle.hosts.specs.Answers.{Answer, Meaning, meaning}
use Rattle.checking.specs.Passing.{PassesAs}
use Rattle.execution.specs.Steps.{Progress, Step, begun, leases, reached}
use Rattle.execution.specs.Laws.{AsExpected, Intact, Start}
use Rattle.execution.proofs.Laws.{ends_law, steps_law, steps_reach}
use Rattle.execution.proofs.Standing.{kept_first}
use Rattle.executor.specs.declared.fault.StepFault.{StepFault}
use Rattle.executor.specs.Steps.{beginning, most}
use Rattle.passing.proofs.Planned.{told_length}
use Rattle.passing.proofs.Starting.{start_law}
use Rattle.runs.specs.declared.request.Act.{Act}
use Rattle.runs.specs.declared.request.Ran.{Ran}
use Rattle.runs.specs.declared.request.Request.{Request}
use Rattle.runs.specs.declared.request.Request.TheVariants.{Goal, Script}
use Rattle.runs.specs.Refusals.{lines_run}
use Rattle.runs.specs.Promise.{AsPlanned, GoalMet, Promised, HoldsAfter, actions_of, answers_of}
use Rattle.runs.specs.Taken.{RanOver}
use Rattle.runs.proofs.Following.{follow}

-- there are as many answers as actions
pub told_size : (before acts : List Act) (told : List (Result (Unit {0}) StepFault)) → actions_of acts ≡ actions_of before → answers_of acts ≡ map Some told →
    length told ≡ length before
told_size before acts told same are =
    sym (length-map told Some) ∙ ap length (sym are) ∙ length-map acts (λ (a : Act). a.answer)
    ∙ sym (length-map acts (λ (a : Act). a.action)) ∙ ap length same ∙ length-map before (λ (a : Act). a.action)

-- what stands where a run from m has come, if nothing stood
empty_stands : (os : List Order) (m : Meaning) (a : Progress) → m.situation.config ≡ empty → Intact os m a →
    a.host.situation ≡ record { universe = m.situation.universe; config = after empty (take a.place os) }
empty_stands os m a is k = k.stands ∙ ap (λ c. record { universe = m.situation.universe; config = after c (take a.place os) }) is

-- a goal that the orders reach is met where they lead
goal_met : (request : Request) (m : Meaning) (os : List Order) (a : Progress) → AsPlanned m.situation.universe request os →
    a.host.situation ≡ record { universe = m.situation.universe; config = after empty os } → GoalMet request a.host.situation.config
goal_met (Goal bs) m os a p e = rw e p.1.1
goal_met (Script xs) m os a p e = tt

module _ {H : Type 0} (s : H → Situation) (v : H → Service) (does : Order → H → H → Answer → Type 0) (h k : H)
    (lawful : Lawful (s h)) (sane : Sane (v h)) where
  -- what was run over the host is promised
  pub promised : (request : Request) (xs : List ℕ) (before acts : List Act) (r : Ran) (os : List Order) →
      length before < 2 ^ 63 → (s h).config ≡ empty → PassesAs (s h).universe (lines_run request xs r.lines) os →
      AsPlanned (s h).universe request os → RanOver s v does (lines_run request xs r.lines) h k before acts r →
      Promised request (meaning (s h) (v h)) (meaning (s k) (v k)) xs before acts r
  promised request xs before acts r os short is passes planned ran =
      let m = meaning (s h) (v h) in
      let lines = lines_run request xs r.lines in
      let start : Start os m = start_law lines os m lawful sane is passes in
      let none : bindings_of (s h) ≡ 0 = rw is (bindings_none 32 256 empty (λ p x y. refl)) in
      let told = ran.acted.told in
      let size : length told ≡ length before = told_size before acts told ran.acted.actions ran.acted.answers in
      let few : 0 + length told ≤ most = omega (arith, size, short) in
      let f = follow s v does lines os m start passes.runs.told none 0 (beginning h) told ran.last few
      (record { kept = kept_first os m start; made = omega arith }) ran.acted.steps in
      let end : reached (begun m) f.steps ≡ _ = f.last in
      let host : (reached (begun m) f.steps).host ≡ meaning (s k) (v k) = ap (λ (a : Progress). a.host) end ∙ ap (λ h. meaning (s h) (v h)) ran.host in
      let counted : leases (reached (begun m) f.steps) ≡ r.leases = ap leases end ∙ sym ran.leases in
      let whole = steps_reach os m start (begun m) f.steps (kept_first os m start) f.run in
      record {
        orders = os;
        passes = passes;
        lines = ran.lines ∙ told_length lines os passes.runs.told;
        planned = planned;
        empty = is;
        own = record {
          steps = f.steps;
          run = f.run;
          each = f.each ∙ size;
          actions = ran.acted.actions;
          answers = ran.acted.answers ∙ ap (map Some) f.answers;
          host = host;
          place = ap (λ (a : Progress). a.place) end ∙ sym ran.place;
          leases = counted;
        };
        gap_free = rw host at whole.gap_free;
        leases = sym counted ∙ whole.leases none ∙ ap (λ (n : Meaning). bindings_of n.situation) host;
        every = λ ts steps.
            All-weaker (λ (t : Step). Intact os m t.progress × AsExpected t.answer) (HoldsAfter os m)
            (λ t k. record { gap_free = k.0.gap_free; answer = k.1; leases = k.0.leases none; stands = empty_stands os m t.progress is k.0 })
            ts (steps_law os m ts start steps);
        ends = λ ts steps covers many.
            let e = ends_law os m ts start steps covers many in
            let stands = e.1 ∙ ap (λ c. record { universe = (s h).universe; config = after c os }) is in
            record { place = e.0; stands = stands; met = goal_met request m os (reached (begun m) ts) planned stands };
      }
