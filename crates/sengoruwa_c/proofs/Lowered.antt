-- A run through its stages, and a run under layers told of the host below. Assumes nothing.
use Rattle.std.proofs.Common.{◌≡◌, ℕ, List, [], ◌∷◌, Some, None, Ok, Err, Option, Result, refl, sym, ap, ◌∙◌}
use Rattle.std.specs.Result.{MatchResult, is_ok}
use Rattle.model.specs.declared.order.Order.{Order}
use Rattle.hosts.specs.Survey.{Situation}
use Rattle.hosts.specs.Service.{Service}
use Rattle.hosts.specs.Answers.{Answer}
use Rattle.checking.specs.declared.stages.CheckedPlan.{CheckedPlan}
use Rattle.checking.specs.declared.stages.Draft.{Draft}
use Rattle.checking.specs.Checking.{checked, is_empty}
use mathlib.Core.Bool.{false≢true}
use Rattle.executor.specs.declared.fault.StepFault.{StepFault}
use Rattle.executor.specs.declared.stages.Finished.{Finished}
use Rattle.executor.specs.declared.stages.RunningPlan.{RunningPlan}
use Rattle.executor.specs.declared.stages.Ticket.{Ticket}
use Rattle.executor.specs.Stages.{finished, lines_of, started}
use Rattle.executor.specs.Steps.{Running, Takes, TakesAll, beginning, order_at, running}
use Rattle.runs.proofs.Stages.{first_line, plan_lines}
use Rattle.sengoruwa_c.specs.declared.records.Ended.{Ended}
use Rattle.sengoruwa_c.specs.Runs.{RanOn, Stepped, ended_told, standing_told}

-- a value that stands where the refusal was mapped stood there before
pub mapped_ok : {T E D : Type 0} (r : Result T E) (q : Result T D) (x : T) (Q : E → Type 0) → MatchResult r (λ y. q ≡ Ok y) Q → is_ok q ≡ is_ok r → q ≡ Ok x → r ≡ Ok x
mapped_ok (Ok y) q x Q m v e = let same : y ≡ x = cc in ap Ok same
mapped_ok (Err d) q x Q m v e = absurd (false≢true (sym (rw e at v)))

module _ {H : Type 0} (s : H → Situation) (v : H → Service) (does : Order → H → H → Answer → Type 0) where
  -- checked, started, stepped and finished
  pub ran_on : (h k : H) (d : Draft) (p : CheckedPlan) (q qs : RunningPlan) (t ts : Ticket) (before after standing left : List ℕ) (f : Finished) (e : Ended) →
      checked (s h) d ≡ Ok p → started (s h) p ≡ Ok (q, t) →
      Stepped s v does (lines_of q) (running h q t) (running k qs ts) before after → left ≡ standing_told (s k) standing →
      f ≡ finished qs ts → e ≡ ended_told f.place f.leases (s k) (v k).load →
      RanOn s v does d.lines.now h k before after standing left e
  ran_on h k d p q qs t ts before after standing left f e plan begun stepped stands end told =
      let first = first_line (is_empty (s h)) p _ begun in
      let same = plan_lines d _ p plan in
      let lines : lines_of q ≡ d.lines.now = ap (λ (z : RunningPlan × Ticket). lines_of z.0) first ∙ ap (λ (z : CheckedPlan). z.lines.now) same in
      let from : running h q t ≡ beginning h = ap (λ (z : RunningPlan × Ticket). running h z.0 z.1) first in
      record {
        last = running k qs ts;
        stepped = rw (lines, from) at stepped;
        host = refl;
        standing = stands;
        ended = told ∙ ap (λ (z : Finished). ended_told z.place z.leases (s k) (v k).load) end;
      }

  -- hosts over others, which mean what those below mean by s and v, and do no more than those below do by `does`
  module _ {K : Type 0} (below : K → H) (over : Order → K → K → Answer → Type 0)
      (done : (o : Order) (h k : K) (r : Answer) → over o h k r → does o (below h) (below k) r) where
    -- where the one below has come
    abbrev lowered : Running K → Running H
    lowered a = record { host = below a.host; place = a.place; made = a.made; ended = a.ended }

    -- a step over the one above is one over the one below
    takes_below : (line : Option Order) (a b : Running K) (r : Result (Unit {0}) StepFault) →
        Takes (λ k. s (below k)) (λ k. v (below k)) over line a r b → Takes s v does line (lowered a) r (lowered b)
    takes_below (Some o) a b r g = record {
      answer = g.answer;
      exact = done o a.host b.host g.answer g.exact;
      next = g.next;
      ordered = g.ordered;
      after = g.after;
      told = g.told;
    }
    takes_below None a b r t = (t.0, ap lowered t.1)

    -- so are all of them
    takes_all_below : (xs : List ℕ) (a b : Running K) (rs : List (Result (Unit {0}) StepFault)) →
        TakesAll (λ k. s (below k)) (λ k. v (below k)) over xs a rs b → TakesAll s v does xs (lowered a) rs (lowered b)
    unfolding TakesAll
    takes_all_below xs a b [] t = ap lowered t
    takes_all_below xs a b (r ∷ rs) t =
        (lowered t.0, takes_below (order_at xs a.place) a t.0 r t.1, takes_all_below xs t.0 b rs t.2)

    -- and a whole run
    pub ran_below : (xs : List ℕ) (h k : K) (before after standing left : List ℕ) (e : Ended) →
        RanOn (λ k. s (below k)) (λ k. v (below k)) over xs h k before after standing left e →
        RanOn s v does xs (below h) (below k) before after standing left e
    ran_below xs h k before after standing left e r = record {
      last = lowered r.last;
      stepped = record {
        told = r.stepped.told;
        steps = takes_all_below xs (beginning h) r.last r.stepped.told r.stepped.steps;
        each = r.stepped.each;
        answers = r.stepped.answers;
      };
      host = ap below r.host;
      standing = r.standing;
      ended = r.ended;
    }
