-- What a call did is a run, by the law over runs. Assumes nothing.
use Rattle.std.proofs.Common.{◌≡◌, ℕ, ◌+◌, ◌<◌, ◌≤◌, Bool, true, false, cond, ◌&&◌, List, [], ◌∷◌, length, map, Some, None, Ok, Option, Result, min, slice_get, refl, sym, ap, ◌∙◌, arith}
use Rattle.model.specs.declared.order.Order.{Order}
use Rattle.std.specs.Option.{option_map}
use Rattle.std.proofs.lemmas.Option.{slice_get-map}
use Rattle.lines.specs.declared.refusal.LineRefusal.{LineRefusal}
use Rattle.lines.specs.Line.{decoded}
use Rattle.hosts.specs.Survey.{Situation, bindings_of}
use Rattle.hosts.specs.Service.{Service}
use Rattle.hosts.specs.Answers.{Answer, Meaning, is_bind, is_done}
use Rattle.checking.proofs.Stepping.{never}
use Rattle.execution.specs.Steps.{Progress, Step, Stepped, Steps, reached}
use Rattle.execution.specs.Laws.{Start}
use Rattle.execution.proofs.Standing.{Kept, kept_step}
use Rattle.executor.specs.declared.fault.StepFault.{StepFault}
use Rattle.executor.specs.Steps.{Given, Running, Takes, TakesAll, most, on_ticket, order_at, order_of_line, progress_of}
use Rattle.runs.specs.Promise.{step_answer, step_answers}

-- the order of the line at the place is that of the script which the lines tell
pub told_at : (xs : List ℕ) (os : List Order) (i : ℕ) → map decoded xs ≡ map Ok os → order_at xs i ≡ slice_get os i
told_at xs os i e = by (slice_get xs i) (slice_get os i) (sym (slice_get-map decoded xs i) ∙ ap (λ (zs : List (Result Order LineRefusal)). slice_get zs i) e ∙ slice_get-map Ok os i)
  where
    by : (x : Option ℕ) (o : Option Order) → option_map decoded x ≡ option_map Ok o → order_of_line x ≡ o
    by None None h = refl
    by None (Some o) h = never cc
    by (Some x) None h = never cc
    by (Some x) (Some o) h = let d : decoded x ≡ Ok o = cc in rw d refl

-- numbers within the largest are held as they are
held_same : (a : Progress) → a.made ≤ most → a.ended ≤ most → on_ticket a ≡ a
held_same a made ended =
    let p : min a.made most ≡ a.made = omega (arith, made) in
    let q : min a.ended most ≡ a.ended = omega (arith, ended) in
    λ i. record { host = a.host; place = a.place; made = p i; ended = q i }

-- an answer makes one binding at most
one_at_most : (b : Bool) → cond b 1 0 ≤ 1
one_at_most true = omega arith
one_at_most false = omega arith

module _ {H : Type 0} (s : H → Situation) (v : H → Service) (does : Order → H → H → Answer → Type 0) (xs : List ℕ) (os : List Order) (m : Meaning)
    (start : Start os m) (told : map decoded xs ≡ map Ok os) (none : bindings_of m.situation ≡ 0) where
  abbrev at : Running H → Progress
  at a = progress_of s v a

  -- where a run from m has come by j steps, no more than j bindings were made
  pub record Come (j : ℕ) (a : Progress) : Type 0 where
    pub kept : Kept os m a
    pub made : a.made ≤ j

  -- the steps of a call are those of a run, with their answers, and lead where it does
  pub record Follows (a : Running H) (rs : List (Result (Unit {0}) StepFault)) (b : Running H) : Type 0 where
    pub steps : List Step
    pub run : Steps os (at a) steps
    pub each : length steps ≡ length rs
    pub answers : rs ≡ step_answers (slice_get os) (at a) steps
    pub last : reached (at a) steps ≡ at b

  -- an order that is given is a step of the run, and its numbers are held as they are
  pub given_step : (j : ℕ) (a : Running H) (o : Order) (r : Result (Unit {0}) StepFault) (c : Running H) → j < most → Come j (at a) →
      slice_get os a.place ≡ Some o → (g : Given s v does o a r c) → Come (j + 1) g.next × (at c ≡ g.next)
  given_step j a o r c low k line g =
      let kept : Kept os m g.next = (kept_step os m start (at a) g.next (Some o) (Some g.answer) line k.kept g.ordered).0 in
      let made : g.next.made ≤ j + 1 = omega (arith, g.ordered.made, k.made, one_at_most (is_done g.answer && is_bind o)) in
      let ended : g.next.ended ≤ g.next.made = omega (arith, kept.leases, none) in
      (record { kept = kept; made = made }, g.after ∙ held_same g.next (omega (arith, made, low)) (omega (arith, made, ended, low)))

  -- a step is one of the run
  follow_one : (j : ℕ) (a : Running H) (line : Option Order) (r : Result (Unit {0}) StepFault) (c : Running H) → j < most → Come j (at a) →
      slice_get os a.place ≡ line → Takes s v does line a r c →
      (x : Option Answer) × Stepped line (at a) x (at c) × Come (j + 1) (at c) × (r ≡ step_answer a.place line x)
  follow_one j a (Some o) r c low k line g =
      let d = given_step j a o r c low k line g in
      (Some g.answer, rw d.1 g.ordered, rw d.1 d.0, g.told)
  follow_one j a None r c low k line t =
      let same = ap at t.1 in
      (None, same, rw same (record { kept = k.kept; made = omega (arith, k.made) }), t.0)

  -- so are all of them
  pub follow : (j : ℕ) (a : Running H) (rs : List (Result (Unit {0}) StepFault)) (b : Running H) → j + length rs ≤ most → Come j (at a) →
      TakesAll s v does xs a rs b → Follows a rs b
  unfolding TakesAll Steps step_answers reached
  follow j a [] b low k t = record { steps = []; run = tt; each = refl; answers = refl; last = ap at (sym t) }
  follow j a (r ∷ rs) b low k t =
      let one = follow_one j a (slice_get os a.place) r t.0 (omega arith) k refl (rw (told_at xs os a.place told) at t.1) in
      let rest = follow (j + 1) t.0 rs b (omega arith) one.2 t.2 in
      record {
        steps = record { answer = one.0; progress = at t.0 } ∷ rest.steps;
        run = (one.1, rest.run);
        each = omega (arith, rest.each);
        answers = λ i. one.3 i ∷ rest.answers i;
        last = rest.last;
      }
