-- Packed goals: a byte for each line, with type 4 bits, state 3, one zero bit.
use Rattle.std.specs.Prelude.{ℕ, ◌/◌, ◌%◌, ◌^◌, Bool, cond, not, ◌&&◌, ◌||◌, List, map, length, Ok, Err, Result, ◌==◌, nat_lt}
use Rattle.std.specs.List.{list_all}
use Rattle.model.specs.declared.pair.Pair.{Pair}
use Rattle.model.specs.Config.{pair}
use Rattle.model.specs.Universe.{Universe}
use Rattle.planner.specs.declared.refusal.PlanRefusal.{PlanRefusal}
use Rattle.planner.specs.declared.refusal.PlanRefusal.TheVariants.{GoalLength, NoPair}

-- the pair that a line names
abbrev pub pair_of_line : ℕ → Pair
pair_of_line b = pair (b / 2 ^ 4) (b / 2 ^ 1 % 2 ^ 3)

-- the pairs of the lines
abbrev pub goal_of : List ℕ → List Pair
goal_of bs = map pair_of_line bs

-- the line names a pair of the universe, and its zero bit is not set
abbrev pub is_goal_line : Universe → ℕ → Bool
is_goal_line u b = b % 2 == 0 && (nat_lt (pair_of_line b).kind u.types && nat_lt (pair_of_line b).state (u.states (pair_of_line b).kind))

-- refused with e if the test holds, else r
abbrev pub refused_if : {X : Type 0} → Bool → PlanRefusal → Result X PlanRefusal → Result X PlanRefusal
refused_if b e r = cond b (Err e) r

-- there are 1 to 16 lines, and each is a line of a goal
abbrev pub goal_checked : Universe → List ℕ → Result (Unit {0}) PlanRefusal
goal_checked u bs =
    refused_if (nat_lt (length bs) 1 || nat_lt 16 (length bs)) GoalLength
    (refused_if (not (list_all (is_goal_line u) bs)) NoPair
    (Ok tt))
