-- Which requests are refused. Assumes nothing.
use Rattle.std.proofs.Common.{◌≡◌, ℕ, ◌≤◌, Bool, true, false, cond, not, List, length, take, Some, None, Ok, Err, Option, Result, IsOk, IfOk, ◌↔◌, ◌≢◌, ◌<◌, ◌^◌, ltb, refl, sym, ap, ◌∙◌}
use mathlib.Core.Bool.{false≢true}
use Rattle.std.proofs.lemmas.Bool.{le-ltb, ltb-false}
use Rattle.model.specs.declared.order.Order.{Order}
use Rattle.model.specs.Config.{empty}
use Rattle.hosts.specs.Survey.{Lawful, Situation}
use Rattle.hosts.specs.Service.{Sane, Service}
use Rattle.hosts.specs.Answers.{Answer, meaning}
use Rattle.planner.specs.declared.refusal.PlanRefusal.{PlanRefusal}
use Rattle.planner.specs.declared.refusal.PlanRefusal.TheVariants.{OutOfReach, Room}
use Rattle.planner.specs.Goals.{goal_of}
use Rattle.planner.proofs.Promising.{passed, planned_is, refused_exactly}
use Rattle.plans.specs.Goals.{Reaches}
use Rattle.plans.proofs.Laws.{reach_law}
use Rattle.planner.specs.Planning.{IsGoal, Unreached, list_after, plan_answer, planned}
use Rattle.checking.specs.declared.refusal.CheckRefusal.{CheckRefusal}
use Rattle.checking.specs.declared.refusal.CheckRefusal.TheVariants.{NotEmpty}
use Rattle.checking.specs.Judging.{and_then, length_judged, refused_if}
use Rattle.checking.specs.Passing.{Passes, PassesAs}
use Rattle.checking.specs.Checking.{is_empty, lines_checked}
use Rattle.checking.proofs.Checked.{lines_unless}
use Rattle.checking.proofs.Emptied.{tells_empty}
use Rattle.checking.proofs.Judged.{both_pass, passes_judged}
use Rattle.checking.proofs.Stepping.{never}
use Rattle.passing.proofs.Planned.{planned_passes_law}
use Rattle.runs.specs.declared.request.Act.{Act}
use Rattle.runs.specs.declared.request.Ran.{Ran}
use Rattle.runs.specs.declared.request.Request.{Request}
use Rattle.runs.specs.declared.request.Request.TheVariants.{Goal, Script}
use Rattle.runs.specs.declared.request.RunRefusal.{RunRefusal}
use Rattle.runs.specs.declared.request.RunRefusal.TheVariants.{Check, Plan}
use Rattle.runs.specs.Refusals.{OutOfReachUnless, RunUnless, goal_refusal, lines_run, list_left, refusal_of, run_refusal, script_refusal}
use Rattle.runs.specs.Promise.{Promised}
use Rattle.runs.specs.Taken.{IsPlanned, RanOver, planned_refusal, request_refusal}
use Rattle.runs.proofs.Promising.{promised}

module _ (s : Situation) (law : Lawful s) where
  -- the refusal of lines that pass
  abbrev unless_empty : Option RunRefusal
  unless_empty = cond (is_empty s) None (Some (Check NotEmpty))

  -- the check refuses lines that pass only where something stands
  passing_refusal : (xs : List ℕ) (os : List Order) → PassesAs s.universe xs os → script_refusal (lines_checked s xs) ≡ unless_empty
  passing_refusal xs os p =
      let a = both_pass (length_judged xs) _ (passes_judged s.universe xs law.valid (os, p)) in
      rw (a.0, a.1) (by (is_empty s))
    where
      by : (b : Bool) → script_refusal (and_then (Ok tt) (and_then (refused_if (not b) NotEmpty (Ok tt)) (Ok tt))) ≡ cond b None (Some (Check NotEmpty))
      by true = refl
      by false = refl

  -- so a request whose lines pass is run exactly where nothing stands
  run_empty : (r : Result Ran RunRefusal) → refusal_of r ≡ unless_empty → (IsOk r → s.config ≡ empty) × (s.config ≡ empty → IsOk r)
  run_empty r is = by r (is_empty s) refl is
    where
      by : (r : Result Ran RunRefusal) (b : Bool) → is_empty s ≡ b → refusal_of r ≡ cond b None (Some (Check NotEmpty)) →
          (IsOk r → s.config ≡ empty) × (s.config ≡ empty → IsOk r)
      by (Ok x) true e is = ((λ ok. (tells_empty s law (is_empty s) refl).0 e), (λ none. refl))
      by (Err x) true e is = never cc
      by (Ok x) false e is = never cc
      by (Err x) false e is = ((λ ok. never cc), (λ none. absurd (false≢true (sym e ∙ (tells_empty s law (is_empty s) refl).1 none))))

  module _ (bs list : List ℕ) where
    abbrev answer : Result ℕ PlanRefusal
    answer = plan_answer (planned s.universe bs) (length list)

    -- a goal whose script fits the list has orders, which reach it, and its lines pass as these
    has_script : (n : ℕ) → answer ≡ Ok n → (os : List Order) × (planned s.universe bs ≡ Ok os) × (length os ≤ length list) × (n ≡ length os) ×
        Reaches s.universe os (goal_of bs) × PassesAs s.universe (take n (list_after (planned s.universe bs) list)) os
    has_script n a = by (planned s.universe bs) refl a
      where
        by : (p : Result (List Order) PlanRefusal) → planned s.universe bs ≡ p → plan_answer p (length list) ≡ Ok n →
            (os : List Order) × (planned s.universe bs ≡ Ok os) × (length os ≤ length list) × (n ≡ length os) ×
            Reaches s.universe os (goal_of bs) × PassesAs s.universe (take n (list_after (planned s.universe bs) list)) os
        by (Err e) is a = never cc
        by (Ok os) is a =
            let fits = passed (ltb (length list) (length os)) Room (Ok (length os)) n a in
            let size : n ≡ length os = cc in
            let w = planned_is s.universe bs law.valid os is in (
              os,
              is,
              ltb-false _ _ fits.0,
              size,
              rw w.2 ((reach_law s.universe (goal_of bs) law.valid).0 w.1),
              planned_passes_law s.universe bs list os n law.valid is (ap (λ p. plan_answer p (length list)) is ∙ a),
            )

    -- a goal with a script that fits the list has an answer
    answered : (os : List Order) → planned s.universe bs ≡ Ok os → length os ≤ length list → answer ≡ Ok (length os)
    answered os is fits = rw (is, le-ltb (length list) (length os) fits) refl

    -- a goal is refused as planning says, or where something stands
    pub goal_refused : planned_refusal s answer (list_after (planned s.universe bs) list) ≡ goal_refusal s answer
    goal_refused = by answer refl
      where
        by : (a : Result ℕ PlanRefusal) → answer ≡ a → planned_refusal s a (list_after (planned s.universe bs) list) ≡ goal_refusal s a
        by (Ok n) is = let h = has_script n is in passing_refusal (take n (list_after (planned s.universe bs) list)) h.0 h.5
        by (Err e) is = refl

    module _ (r : Result Ran RunRefusal) (is : refusal_of r ≡ goal_refusal s answer) where
      -- what is run was planned, and nothing stood
      pub goal_ran : IsOk r → (n : ℕ) × (answer ≡ Ok n) × (s.config ≡ empty)
      goal_ran ok = by r answer refl is ok
        where
          by : (r : Result Ran RunRefusal) (a : Result ℕ PlanRefusal) → answer ≡ a → refusal_of r ≡ goal_refusal s a → IsOk r → (n : ℕ) × (answer ≡ Ok n) × (s.config ≡ empty)
          by r (Ok n) a e ok = (n, a, (run_empty r e).0 ok)
          by (Ok x) (Err e) a is ok = never cc
          by (Err x) (Err e) a is ok = never cc

      -- it is run exactly if nothing stands, it has a script, and the list has room
      pub goal_unless : IsOk r ↔ ((s.config ≡ empty) × ((os : List Order) × (planned s.universe bs ≡ Ok os) × (length os ≤ length list)))
      goal_unless = (
        (λ ok. let w = goal_ran ok in let h = has_script w.0 w.1 in (w.2, (h.0, h.1, h.2))),
        (λ w. (run_empty r (is ∙ ap (goal_refusal s) (answered w.1.0 w.1.1 w.1.2))).1 w.0),
      )

      -- it is refused as out of reach exactly if no run reaches it
      pub goal_reach : (refusal_of r ≡ Some (Plan OutOfReach)) ↔ (IsGoal s.universe bs × Unreached s.universe (goal_of bs))
      goal_reach =
          let exact = refused_exactly s.universe bs law.valid (length list) answer refl in (
            (λ e. exact.only (out_of answer (sym is ∙ e))),
            (λ w. is ∙ ap (goal_refusal s) (exact.always w.0 w.1)),
          )
        where
          unless : (b : Bool) → cond b None (Some (Check NotEmpty)) ≡ Some (Plan OutOfReach) → ⊥
          unless true e = never cc
          unless false e = never cc

          out_of : (a : Result ℕ PlanRefusal) → goal_refusal s a ≡ Some (Plan OutOfReach) → a ≡ Err OutOfReach
          out_of (Ok n) e = absurd (unless (is_empty s) e)
          out_of (Err e) is = let same : e ≡ OutOfReach = cc in ap Err same

  module _ (xs : List ℕ) (r : Result Ran RunRefusal) (is : refusal_of r ≡ script_refusal (lines_checked s xs)) where
    -- a script is run exactly if nothing stands and it passes
    pub script_unless : IsOk r ↔ ((s.config ≡ empty) × Passes s.universe xs)
    script_unless =
        let c = lines_unless s law xs in
        let same = by r (lines_checked s xs) is in
        ((λ ok. c.0 (same.0 ok)), (λ w. same.1 (c.1 w)))
      where
        by : (r : Result Ran RunRefusal) (p : Result (Unit {0}) CheckRefusal) → refusal_of r ≡ script_refusal p → (IsOk r → IsOk p) × (IsOk p → IsOk r)
        by (Ok x) (Ok p) e = ((λ ok. refl), (λ ok. refl))
        by (Ok x) (Err p) e = never cc
        by (Err x) (Ok p) e = never cc
        by (Err x) (Err p) e = ((λ ok. never cc), (λ ok. never cc))

    -- and never refused as out of reach
    pub script_reach : refusal_of r ≢ Some (Plan OutOfReach)
    script_reach e = by (lines_checked s xs) (sym is ∙ e)
      where
        by : (p : Result (Unit {0}) CheckRefusal) → script_refusal p ≡ Some (Plan OutOfReach) → ⊥
        by (Ok p) e = never cc
        by (Err p) e = never cc

-- what holds of each answer that is one, holds if it is one
each_ok : (r : Result Ran RunRefusal) (P Q : Ran → Type 0) → IfOk r P → ((x : Ran) → IsOk r → P x → Q x) → IfOk r Q
each_ok (Ok x) P Q p f = f x refl p
each_ok (Err e) P Q p f = tt

both_ok : (r : Result Ran RunRefusal) (P Q : Ran → Type 0) → IfOk r P → IfOk r Q → IfOk r (λ x. P x × Q x)
both_ok (Ok x) P Q p q = (p, q)
both_ok (Err e) P Q p q = tt

-- what a request's run means: what is refused, which goals are out of reach, when it is run, and what is then promised
module _ {H : Type 0} (s : H → Situation) (v : H → Service) (does : Order → H → H → Answer → Type 0) (h k : H)
    (law : Lawful (s h)) (sane : Sane (v h)) where
  pub whole : (request : Request) (list left : List ℕ) (before acts : List Act) (r : Result Ran RunRefusal) → length before < 2 ^ 63 →
      refusal_of r ≡ request_refusal (s h) request list → left ≡ list_left (s h).universe request list →
      IfOk r (λ x. IsPlanned (s h).universe request (length list) x.lines) → IfOk r (λ x. RanOver s v does (lines_run request left x.lines) h k before acts x) →
      (refusal_of r ≡ run_refusal (s h) request (length list)) × OutOfReachUnless (s h).universe request (refusal_of r) × RunUnless (s h) request (length list) r ×
      IfOk r (λ x. Promised request (meaning (s h) (v h)) (meaning (s k) (v k)) left before acts x)
  whole (Goal bs) list left before acts r short refused is count ran =
      let e : refusal_of r ≡ goal_refusal (s h) (answer (s h) law bs.now list) = refused ∙ goal_refused (s h) law bs.now list in (
        e,
        goal_reach (s h) law bs.now list r e,
        goal_unless (s h) law bs.now list r e,
        each_ok r _ _ (both_ok r _ _ count ran) (λ x ok over.
            let a = goal_ran (s h) law bs.now list r e ok in
            let w = has_script (s h) law bs.now list x.lines over.0 in
            let passes : PassesAs (s h).universe (take x.lines left) w.0 = rw is w.5 in
            promised s v does h k law sane (Goal bs) left before acts x w.0 short a.2 passes (w.1, w.4) over.1),
      )
  whole (Script xs) list left before acts r short refused is count ran = (
    refused,
    script_reach (s h) law xs.now r refused,
    script_unless (s h) law xs.now r refused,
    each_ok r _ _ (both_ok r _ _ count ran) (λ x ok over.
        let w = (script_unless (s h) law xs.now r refused).0 ok in
        promised s v does h k law sane (Script xs) left before acts x w.1.0 short w.0 w.1.1 tt over.1),
  )
