-- What plan answers, in the words of runs. Assumes nothing.
use Rattle.std.proofs.Common.{List, [], ◌∷◌, ◌++◌, ◌≡◌, ◌≤◌, ◌%◌, ℕ, suc, Bool, true, false, not, ◌||◌, cond, drop, length, map, take, ltb, eqb, Ok, Err, Result, refl, sym, ap, ◌∙◌, arith}
use mathlib.Core.Bool.{false≢true}
use Rattle.std.specs.List.{All, list_all}
use Rattle.std.specs.Result.{IsOk}
use Rattle.std.proofs.lemmas.Bool.{and_from, and_parts, both_ways, eq-eqb, eqb-true, le-ltb, lt-ltb, ltb-false, ltb-true, not-false}
use Rattle.std.proofs.lemmas.List.Sums.{AllPass-from_list_all, list_all-from_AllPass}
use Rattle.std.proofs.lemmas.List.{length-map}
use Rattle.std.proofs.Math.Seq.{take-append_seam}
use Rattle.model.proofs.Searches.{refuted}
use Rattle.model.specs.declared.order.Order.{Order}
use Rattle.model.specs.Universe.{Universe, IsPair, Valid}
use Rattle.lines.specs.Line.{decoded, encoded, fields_of_order, fits}
use Rattle.lines.proofs.Coding.{round_trip}
use Rattle.universe.specs.declared.held.Universe.{Universe as Held}
use Rattle.universe.specs.Held.{universe_in}
use Rattle.universe.proofs.Sounds.{sound}
use Rattle.plans.specs.Lists.{listed}
use Rattle.plans.specs.Closing.{closing}
use Rattle.plans.specs.Goals.{Reaches}
use Rattle.plans.specs.Script.{script}
use Rattle.plans.proofs.Laws.{lines_law, reach_law, size_law}
use Rattle.planner.specs.declared.refusal.PlanRefusal.{PlanRefusal}
use Rattle.planner.specs.declared.refusal.PlanRefusal.TheVariants.{GoalLength, NoPair, OutOfReach, Room}
use Rattle.planner.specs.Goals.{goal_checked, goal_of, is_goal_line, pair_of_line, refused_if}
use Rattle.planner.specs.Writing.{line_of}
use Rattle.planner.specs.Planning.{IsGoal, RefusedExactly, Unreached, WritesRun, list_after, plan_answer, planned, planned_for}

-- refusals differ from one another and from answers
pub not_same : {X : Type 0} → ◌≡◌ {A = ℕ} 0 1 → X
not_same e = absurd (omega arith)

-- a test that refuses
module _ {X : Type 0} where
  pub passed : (b : Bool) (e : PlanRefusal) (r : Result X PlanRefusal) (x : X) → refused_if b e r ≡ Ok x → (b ≡ false) × (r ≡ Ok x)
  passed true e r x is = not_same cc
  passed false e r x is = (refl, is)

neither : (a b : Bool) → (a || b) ≡ false → (a ≡ false) × (b ≡ false)
neither true b e = absurd (false≢true (sym e))
neither false b e = (refl, e)

module _ (u : Universe) where
  line_of_goal : (b : ℕ) → is_goal_line u b ≡ true → (b % 2 ≡ 0) × IsPair u (pair_of_line b).kind (pair_of_line b).state
  line_of_goal b e =
      let v = and_parts (eqb (b % 2) 0) _ e in
      let w = and_parts (ltb (pair_of_line b).kind u.types) _ v.1 in
      (eqb-true (b % 2) 0 v.0, (ltb-true _ _ w.0, ltb-true _ _ w.1))

  goal_line : (b : ℕ) → (b % 2 ≡ 0) × IsPair u (pair_of_line b).kind (pair_of_line b).state → is_goal_line u b ≡ true
  goal_line b (even, (low, at)) = and_from _ _ (eq-eqb (b % 2) 0 even) (and_from _ _ (lt-ltb _ _ low) (lt-ltb _ _ at))

  -- what passes the tests is a goal
  checked_goal : (bs : List ℕ) → goal_checked u bs ≡ Ok tt → IsGoal u bs
  checked_goal bs e =
      let p = passed _ GoalLength _ tt e in
      let q = passed _ NoPair _ tt p.1 in
      let sizes = neither (ltb (length bs) 1) (ltb 16 (length bs)) p.0 in
      let lines = AllPass-from_list_all (is_goal_line u) bs (not-false (list_all (is_goal_line u) bs) q.0) in
      record {
        some = ltb-false (length bs) 1 sizes.0;
        few = ltb-false 16 (length bs) sizes.1;
        lines = λ k d low. line_of_goal _ (lines k d low);
      }

  -- and a goal passes them
  goal_passes : (bs : List ℕ) → IsGoal u bs → goal_checked u bs ≡ Ok tt
  goal_passes bs g =
      rw (le-ltb (length bs) 1 g.some, le-ltb 16 (length bs) g.few, list_all-from_AllPass (is_goal_line u) bs (λ k d low. goal_line _ (g.lines k d low)))

  -- the tests refuse with other refusals
  checked_never : (bs : List ℕ) → goal_checked u bs ≡ Err OutOfReach → ⊥
  checked_never bs e = by (ltb (length bs) 1 || ltb 16 (length bs)) (not (list_all (is_goal_line u) bs)) e
    where
      by : (a b : Bool) → refused_if a GoalLength (refused_if b NoPair (Ok (tt {0}))) ≡ Err OutOfReach → ⊥
      by true b e = not_same cc
      by false true e = not_same cc
      by false false e = not_same cc

-- an order that has a line is told by it
decoded_line : (o : Order) → IsOk (encoded o) → decoded (line_of o) ≡ Ok o
decoded_line o e = (round_trip o (line_of o)).0 (by (fits (fields_of_order o)) refl e)
  where
    by : (b : Bool) → fits (fields_of_order o) ≡ b → IsOk (encoded o) → encoded o ≡ Ok (line_of o)
    by true there ok = rw there
    by false out ok = absurd (false≢true (rw out at ok))

decoded_lines : (os : List Order) → All (λ o. IsOk (encoded o)) os → map decoded (map line_of os) ≡ map Ok os
decoded_lines [] each = refl
decoded_lines (o ∷ os) each =
    ap (λ x. x ∷ map decoded (map line_of os)) (decoded_line o (each 0 o (omega arith)))
    ∙ ap (λ xs. Ok o ∷ xs) (decoded_lines os (λ k d low. each (suc k) d (omega arith)))

module _ (u : Universe) (bs : List ℕ) (ok : Valid u) where
  abbrev in_reach : Bool
  in_reach = list_all (listed (closing u)) (goal_of bs)

  -- what is planned is the script for a goal in reach
  pub planned_is : (os : List Order) → planned u bs ≡ Ok os → IsGoal u bs × (in_reach ≡ true) × (os ≡ script u (goal_of bs))
  planned_is os e = by (goal_checked u bs) refl in_reach refl e
    where
      by : (c : Result (Unit {0}) PlanRefusal) → goal_checked u bs ≡ c → (b : Bool) → in_reach ≡ b →
          planned_for u (goal_of bs) c ≡ Ok os → IsGoal u bs × (in_reach ≡ true) × (os ≡ script u (goal_of bs))
      by (Err e) p b q r = not_same cc
      by (Ok tt) p true q r = (checked_goal u bs p, q, (let z = rw q at r in cc))
      by (Ok tt) p false q r = (let z = rw q at r in not_same cc)

  -- a goal is out of reach exactly if it is a goal of which some pair is not listed
  planned_out : planned u bs ≡ Err OutOfReach → IsGoal u bs × (in_reach ≡ false)
  planned_out e = by (goal_checked u bs) refl in_reach refl e
    where
      by : (c : Result (Unit {0}) PlanRefusal) → goal_checked u bs ≡ c → (b : Bool) → in_reach ≡ b →
          planned_for u (goal_of bs) c ≡ Err OutOfReach → IsGoal u bs × (in_reach ≡ false)
      by (Err e) p b q r = absurd (checked_never u bs (p ∙ (let z = r in cc)))
      by (Ok tt) p true q r = (let z = rw q at r in not_same cc)
      by (Ok tt) p false q r = (checked_goal u bs p, q)

  out_planned : IsGoal u bs → in_reach ≡ false → planned u bs ≡ Err OutOfReach
  out_planned g out = rw (goal_passes u bs g, out)

  goals_length : length (goal_of bs) ≡ length bs
  goals_length = length-map bs pair_of_line

  -- no script is long
  pub planned_short : (os : List Order) → planned u bs ≡ Ok os → length os ≤ 11136
  planned_short os e =
      let w = planned_is os e in
      rw w.2 (size_law u (goal_of bs) ok (omega (arith, goals_length, w.0.few))).1

  -- the answer is out of reach exactly if the plan is
  answer_out : (p : Result (List Order) PlanRefusal) (room : ℕ) → plan_answer p room ≡ Err OutOfReach → p ≡ Err OutOfReach
  answer_out (Ok os) room e = by (ltb room (length os)) e
    where
      done : Result (List Order) PlanRefusal
      done = Ok os

      by : (b : Bool) → refused_if b Room (Ok (length os)) ≡ Err OutOfReach → done ≡ Err OutOfReach
      by true e = not_same cc
      by false e = not_same cc
  answer_out (Err e) room is = let z = is in cc

  pub refused_exactly : (room : ℕ) (r : Result ℕ PlanRefusal) → r ≡ plan_answer (planned u bs) room → RefusedExactly u bs r
  refused_exactly room r is = record { only = only; always = always }
    where
      only : r ≡ Err OutOfReach → IsGoal u bs × Unreached u (goal_of bs)
      only e =
          let out = planned_out (answer_out (planned u bs) room (sym is ∙ e)) in
          (out.0, λ os reaches. both_ways in_reach out.1 ((reach_law u (goal_of bs) ok).1 os reaches))

      always : IsGoal u bs → Unreached u (goal_of bs) → r ≡ Err OutOfReach
      always g none =
          is ∙ ap (λ p. plan_answer p room)
          (out_planned g (refuted in_reach (λ reach. none (script u (goal_of bs)) ((reach_law u (goal_of bs) ok).0 reach))))

  -- what is written is told
  pub written_told : (xs : List ℕ) (os : List Order) (n : ℕ) → All (λ o. IsOk (encoded o)) os → plan_answer (Ok os) (length xs) ≡ Ok n →
      map decoded (take n (list_after (Ok os) xs)) ≡ map Ok os
  written_told xs os n lines e = by (ltb (length xs) (length os)) refl e
    where
      by : (b : Bool) → ltb (length xs) (length os) ≡ b → refused_if b Room (Ok (length os)) ≡ Ok n →
          map decoded (take n (cond b xs (map line_of os ++ drop (length os) xs))) ≡ map Ok os
      by true p q = not_same cc
      by false p q =
          let long : n ≡ length (map line_of os) = (let z : length os ≡ n = cc in sym z ∙ sym (length-map os line_of)) in
          ap (map decoded) (ap (λ k. take k (map line_of os ++ drop (length os) xs)) long ∙ take-append_seam (map line_of os) (drop (length os) xs))
          ∙ decoded_lines os lines

  writes_run : (xs : List ℕ) (r : Result ℕ PlanRefusal) → r ≡ plan_answer (planned u bs) (length xs) →
      WritesRun u bs r (list_after (planned u bs) xs)
  writes_run xs r is = record { goal = λ n e. (by n e (planned u bs) refl).0; run = λ n e. (by n e (planned u bs) refl).1 }
    where
      by : (n : ℕ) → r ≡ Ok n → (p : Result (List Order) PlanRefusal) → planned u bs ≡ p →
          IsGoal u bs × ((os : List Order) × (map decoded (take n (list_after p xs)) ≡ map Ok os) × Reaches u os (goal_of bs))
      by n e (Err d) q = not_same (let z = sym e ∙ is ∙ ap (λ p. plan_answer p (length xs)) q in cc)
      by n e (Ok os) q =
          let w = planned_is os q in
          let few : length (goal_of bs) ≤ 16 = omega (arith, goals_length, w.0.few) in
          let lines : All (λ o. IsOk (encoded o)) os = rw w.2 (lines_law u (goal_of bs) ok few) in
          let told = written_told xs os n lines (sym (ap (λ p. plan_answer p (length xs)) q) ∙ sym is ∙ e) in
          (w.0, (os, told, rw w.2 ((reach_law u (goal_of bs) ok).0 w.1)))

-- of a universe that the code holds
module _ (h : Held) (bs : List ℕ) (r : Result ℕ PlanRefusal) where
  pub refused_held : (room : ℕ) → r ≡ plan_answer (planned (universe_in h) bs) room → RefusedExactly (universe_in h) bs r
  refused_held room is = refused_exactly (universe_in h) bs (sound h.tables h.sound).valid room r is

  pub run_held : (xs zs : List ℕ) → r ≡ plan_answer (planned (universe_in h) bs) (length xs) →
      zs ≡ list_after (planned (universe_in h) bs) xs → WritesRun (universe_in h) bs r zs
  run_held xs zs is written = rw written (writes_run (universe_in h) bs (sound h.tables h.sound).valid xs r is)
