-- A plan exactly if nothing stands and the lines pass, and else a refusal that is right. Assumes nothing.
use Rattle.std.proofs.Common.{◌≡◌, ℕ, ◌↔◌, Bool, true, false, List, not, Ok, Err, IsOk, is_ok, Result, sym, refl, ap, ◌∙◌, subst}
use mathlib.Core.Bool.{false≢true}
use Rattle.std.proofs.lemmas.Bool.{not-false}
use Rattle.model.specs.Universe.{Universe}
use Rattle.model.specs.Config.{empty}
use Rattle.hosts.specs.Survey.{Situation, Lawful}
use Rattle.checking.specs.declared.stages.Draft.{Draft}
use Rattle.checking.specs.declared.stages.CheckedPlan.{CheckedPlan}
use Rattle.checking.specs.declared.refusal.CheckRefusal.{CheckRefusal}
use Rattle.checking.specs.declared.refusal.CheckRefusal.TheVariants.{NotEmpty}
use Rattle.checking.specs.Judging.{and_then, length_judged, refused_if, replayed}
use Rattle.checking.specs.Passing.{IsRight, Passes, RefusedRightly}
use Rattle.checking.specs.Checking.{CheckedUnless, checked, empty_judged, is_empty, lines_checked, plan_of}
use Rattle.checking.proofs.Emptied.{tells_empty}
use Rattle.checking.proofs.FirstBad.{length_right, replayed_right}
use Rattle.checking.proofs.Judged.{both_pass, judged_passes, not_refused, pass_both, passes_judged}

-- a plan is yielded exactly if nothing refuses
plan_passes : (d : Draft) (r : Result (Unit {0}) CheckRefusal) → IsOk (plan_of d r) → r ≡ Ok tt
plan_passes d (Ok tt) e = refl
plan_passes d (Err x) e = absurd (false≢true e)

passes_plan : (d : Draft) (r : Result (Unit {0}) CheckRefusal) → r ≡ Ok tt →
    plan_of d r ≡ Ok (record { lines = d.lines })
passes_plan d r e = rw e

module _ (s : Situation) (xs : List ℕ) (law : Lawful s) where
  -- what is checked and not refused: nothing stands, and the lines pass
  lines_passes : lines_checked s xs ≡ Ok tt → (s.config ≡ empty) × Passes s.universe xs
  lines_passes e =
      let a = both_pass (length_judged xs) _ e in
      let b = both_pass (empty_judged s) (replayed s.universe 0 empty xs) a.1 in
      let none = not-false (is_empty s) (not_refused (not (is_empty s)) NotEmpty b.0) in (
        (tells_empty s law (is_empty s) refl).0 none,
        judged_passes s.universe xs law.valid (pass_both _ _ a.0 b.1),
      )

  -- where nothing stands and the lines pass, they are not refused
  passes_lines : s.config ≡ empty → Passes s.universe xs → lines_checked s xs ≡ Ok tt
  passes_lines e p =
      let a = both_pass (length_judged xs) _ (passes_judged s.universe xs law.valid p) in
      let none = (tells_empty s law (is_empty s) refl).1 e in
      pass_both _ _ a.0 (pass_both (empty_judged s) _ (rw none) a.1)

module _ (s : Situation) (d : Draft) (law : Lawful s) where
  -- the same of a draft
  checked_passes : IsOk (checked s d) → (s.config ≡ empty) × Passes s.universe d.lines.now
  checked_passes e = lines_passes s d.lines.now law (plan_passes d _ e)

  -- whose lines the plan has
  pub passes_checked : s.config ≡ empty → Passes s.universe d.lines.now → checked s d ≡ Ok (record { lines = d.lines })
  passes_checked e p = passes_plan d _ (passes_lines s d.lines.now law e p)

-- lines are not refused exactly if nothing stands and they pass
pub lines_unless : (s : Situation) → Lawful s → (xs : List ℕ) → IsOk (lines_checked s xs) ↔ ((s.config ≡ empty) × Passes s.universe xs)
lines_unless s law xs = (
  (λ e. lines_passes s xs law (by (lines_checked s xs) e)),
  (λ p. ap is_ok (passes_lines s xs law p.0 p.1)),
)
  where
    by : (r : Result (Unit {0}) CheckRefusal) → IsOk r → r ≡ Ok tt
    by (Ok tt) e = refl
    by (Err x) e = absurd (false≢true e)

-- a survey's check yields a plan exactly if nothing stands and the lines pass
pub checked_unless : (s : Situation) (d : Draft) → Lawful s → (r : Result CheckedPlan CheckRefusal) → r ≡ checked s d →
    CheckedUnless s d r
checked_unless s d law r is = (
  (λ e. checked_passes s d law (ap is_ok (sym is) ∙ e)),
  (λ p. ap is_ok (is ∙ passes_checked s d law p.0 p.1)),
)

module _ (occupied : Type 0) (u : Universe) (xs : List ℕ) where
  -- two tests in a row refuse rightly, if the first does, and the second does where the first passes
  both_right : (a b : Result (Unit {0}) CheckRefusal) → RefusedRightly occupied u xs a →
      (a ≡ Ok tt → RefusedRightly occupied u xs b) → RefusedRightly occupied u xs (and_then a b)
  both_right (Ok tt) b h k = k refl
  both_right (Err e) b h k = h

  -- so does the answer that holds a plan
  plan_right : (d : Draft) (r : Result (Unit {0}) CheckRefusal) → RefusedRightly occupied u xs r →
      RefusedRightly occupied u xs (plan_of d r)
  plan_right d (Ok tt) h = tt
  plan_right d (Err e) h = h

  -- an answer refuses rightly if each refusal that it can be is right
  each_right : (r : Result (Unit {0}) CheckRefusal) → ((e : CheckRefusal) → r ≡ Err e → IsRight occupied u xs e) →
      RefusedRightly occupied u xs r
  each_right (Ok tt) h = tt
  each_right (Err e) h = h e refl

-- what is not said to be empty is not
occupied_right : (s : Situation) → Lawful s → (xs : List ℕ) →
    RefusedRightly (s.config ≡ empty → ⊥) s.universe xs (empty_judged s)
occupied_right s law xs = by (is_empty s) refl
  where
    by : (b : Bool) → is_empty s ≡ b →
        RefusedRightly (s.config ≡ empty → ⊥) s.universe xs (refused_if (not b) NotEmpty (Ok (tt {0})))
    by true e = tt
    by false e = λ none. absurd (false≢true (sym e ∙ (tells_empty s law (is_empty s) refl).1 none))

-- what a survey's check refuses is refused rightly
pub checked_right : (s : Situation) (d : Draft) → Lawful s → (r : Result CheckedPlan CheckRefusal) → r ≡ checked s d →
    RefusedRightly (s.config ≡ empty → ⊥) s.universe d.lines.now r
checked_right s d law r is =
    let xs = d.lines.now in
    let O : Type 0 = s.config ≡ empty → ⊥ in
    subst (λ (a : Result CheckedPlan CheckRefusal). RefusedRightly O s.universe xs a) (sym is)
    (plan_right O s.universe xs d _
    (both_right O s.universe xs (length_judged xs) _ (each_right O s.universe xs _ (length_right O s.universe xs))
    (λ sizes. both_right O s.universe xs (empty_judged s) (replayed s.universe 0 empty xs) (occupied_right s law xs)
    (λ clear. each_right O s.universe xs _ (replayed_right O s.universe xs law.valid sizes)))))
