-- The planner's scripts pass, so the check passes them on every empty host. Assumes nothing.
use Rattle.std.proofs.Common.{◌≡◌, ℕ, ◌≤◌, List, [], ◌∷◌, length, map, take, Ok, Err, Result, sym, refl, ap, ◌∙◌, arith}
use Rattle.std.specs.List.{All}
use Rattle.std.specs.Result.{IsOk}
use Rattle.std.proofs.lemmas.List.{length-map}
use Rattle.std.proofs.lemmas.List.Elements.{All-weaker}
use Rattle.model.specs.declared.pair.Pair.{Pair}
use Rattle.model.specs.declared.order.Order.{Order}
use Rattle.model.specs.Config.{empty, pair}
use Rattle.model.specs.Runs.{after}
use Rattle.lines.specs.Line.{decoded, encoded}
use Rattle.hosts.specs.Laws.{InRange}
use Rattle.plans.specs.Goals.{Met}
use Rattle.plans.proofs.Laws.{lines_law, reach_law, size_law}
use Rattle.planner.specs.declared.refusal.PlanRefusal.{PlanRefusal}
use Rattle.planner.specs.Goals.{goal_of, pair_of_line}
use Rattle.planner.specs.Planning.{list_after, plan_answer, planned}
use Rattle.planner.proofs.Promising.{not_same, planned_is, planned_short, written_told}
use Rattle.checking.specs.Checking.{checked}
use Rattle.checking.specs.Passing.{PassesAs}
use Rattle.checking.proofs.Checked.{passes_checked}
use Rattle.checking.proofs.FirstBad.{encoded_range}
use Rattle.passing.specs.Laws.{PlannedCheckedLaw, PlannedPassesLaw}

-- orders that meet a goal are some
orders_some : (goal : List Pair) (os : List Order) → 1 ≤ length goal → Met goal (after empty os) → 1 ≤ length os
unfolding after
orders_some goal [] some met = let at = (met 0 (pair 0 0) some).1 in not_same cc
orders_some goal (o ∷ os) some met = omega arith

-- lines that tell orders are as many
pub told_length : (xs : List ℕ) (os : List Order) → map decoded xs ≡ map Ok os → length xs ≡ length os
told_length xs os e = sym (length-map xs decoded) ∙ ap length e ∙ length-map os Ok

-- the planner's lines pass as the orders planned
pub planned_passes_law : PlannedPassesLaw
planned_passes_law u goal xs os n ok is answer =
    let w = planned_is u goal ok os is in
    let same : length (goal_of goal) ≡ length goal = length-map goal pair_of_line in
    let few : length (goal_of goal) ≤ 16 = omega (arith, same, w.0.few) in
    let size = size_law u (goal_of goal) ok few in
    let reached = (reach_law u (goal_of goal) ok).0 w.1 in
    let lines : All (λ o. IsOk (encoded o)) os = rw w.2 (lines_law u (goal_of goal) ok few) in
    let some : 1 ≤ length os = orders_some (goal_of goal) os (omega (arith, same, w.0.some)) (rw w.2 reached.1) in
    let short = planned_short u goal ok os is in
    let told : map decoded (take n (list_after (planned u goal) xs)) ≡ map Ok os =
    rw is (written_told u goal ok xs os n lines (rw is at answer)) in
    let long = told_length _ os told in
    record {
      some = omega (arith, long, some);
      few = omega (arith, long, short);
      runs = record {
        told = told;
        run = rw w.2 reached.0;
        range = All-weaker (λ o. IsOk (encoded o)) InRange encoded_range os lines;
        bindings = λ before rest e. omega (arith, size.2 before rest (sym w.2 ∙ e) 32 256);
      };
    }

-- and where nothing stands the check passes them
pub planned_checked_law : PlannedCheckedLaw
planned_checked_law s goal xs n d law is answer lines = by (planned s.universe goal) refl answer
  where
    by : (p : Result (List Order) PlanRefusal) → planned s.universe goal ≡ p → plan_answer p (length xs) ≡ Ok n →
        checked s d ≡ Ok (record { lines = d.lines })
    by (Err x) e answered = not_same cc
    by (Ok os) e answered =
        let passes : PassesAs s.universe d.lines.now os =
        rw lines (planned_passes_law s.universe goal xs os n law.valid e answer) in
        passes_checked s d law is (os, passes)
