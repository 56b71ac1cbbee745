-- What plan answers, what the list holds afterwards, and what that means for runs.
use Rattle.std.specs.Prelude.{◌≡◌, ℕ, ◌≤◌, ◌%◌, cond, not, All, List, ◌++◌, drop, length, map, take, Ok, Err, Result, nat_lt}
use Rattle.std.specs.List.{list_all}
use Rattle.model.specs.declared.pair.Pair.{Pair}
use Rattle.model.specs.declared.order.Order.{Order}
use Rattle.model.specs.Universe.{Universe, IsPair}
use Rattle.lines.specs.Line.{decoded}
use Rattle.plans.specs.Lists.{listed}
use Rattle.plans.specs.Closing.{closing}
use Rattle.plans.specs.Goals.{Reaches}
use Rattle.plans.specs.Script.{script}
use Rattle.planner.specs.declared.refusal.PlanRefusal.{PlanRefusal}
use Rattle.planner.specs.declared.refusal.PlanRefusal.TheVariants.{OutOfReach, Room}
use Rattle.planner.specs.Goals.{goal_checked, goal_of, pair_of_line, refused_if}
use Rattle.planner.specs.Writing.{line_of}

-- what is refused stays refused; else the script for the goal, if all its pairs are listed
abbrev pub planned_for : Universe → List Pair → Result (Unit {0}) PlanRefusal → Result (List Order) PlanRefusal
planned_for u goal (Ok _) = refused_if (not (list_all (listed (closing u)) goal)) OutOfReach (Ok (script u goal))
planned_for u goal (Err e) = Err e

-- the script for the goal's lines, whatever list it is to be written to
abbrev pub planned : Universe → List ℕ → Result (List Order) PlanRefusal
planned u bs = planned_for u (goal_of bs) (goal_checked u bs)

-- the answer for a list of so many places: how many lines the script has
abbrev pub plan_answer : Result (List Order) PlanRefusal → ℕ → Result ℕ PlanRefusal
plan_answer (Ok os) room = refused_if (nat_lt room (length os)) Room (Ok (length os))
plan_answer (Err e) room = Err e

-- the list afterwards: the lines of the script, and behind them what it held; on a refusal all that it held
abbrev pub list_after : Result (List Order) PlanRefusal → List ℕ → List ℕ
list_after (Ok os) xs = cond (nat_lt (length xs) (length os)) xs (map line_of os ++ drop (length os) xs)
list_after (Err e) xs = xs

-- the bytes are the lines of a goal: 1 to 16, each with its zero bit not set and a pair of the universe
pub record IsGoal (u : Universe) (bs : List ℕ) : Type 0 where
  pub some : 1 ≤ length bs
  pub few : length bs ≤ 16
  pub lines : All (λ b. (b % 2 ≡ 0) × IsPair u (pair_of_line b).kind (pair_of_line b).state) bs

-- no run reaches the goal, of any length
abbrev pub Unreached : Universe → List Pair → Type 0
Unreached u goal = (os : List Order) → Reaches u os goal → ⊥

-- bytes are refused as out of reach exactly if they are a goal that no run reaches
pub record RefusedExactly (u : Universe) (bs : List ℕ) (r : Result ℕ PlanRefusal) : Type 0 where
  pub only : r ≡ Err OutOfReach → IsGoal u bs × Unreached u (goal_of bs)
  pub always : IsGoal u bs → Unreached u (goal_of bs) → r ≡ Err OutOfReach

-- when it is done, the bytes are a goal, and the first lines of the list, as many as it answers, tell a run that
-- reaches the goal
pub record WritesRun (u : Universe) (bs : List ℕ) (r : Result ℕ PlanRefusal) (xs : List ℕ) : Type 0 where
  pub goal : (n : ℕ) → r ≡ Ok n → IsGoal u bs
  pub run : (n : ℕ) → r ≡ Ok n → (os : List Order) × (map decoded (take n xs) ≡ map Ok os) × Reaches u os (goal_of bs)
