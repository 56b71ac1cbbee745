-- The numbers of the refusals of a goal.
use Rattle.std.specs.Prelude.{ℕ}
use Rattle.planner.specs.declared.refusal.PlanRefusal.{PlanRefusal}
use Rattle.planner.specs.declared.refusal.PlanRefusal.TheVariants.{GoalLength, NoPair, OutOfReach, Room}

abbrev pub plan_number : PlanRefusal → ℕ
plan_number GoalLength = 11
plan_number NoPair = 12
plan_number OutOfReach = 14
plan_number Room = 15
