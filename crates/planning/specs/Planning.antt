-- The lines of a planned script, or the text of the refusal.
use Rattle.std.specs.Prelude.{ℕ, cond, List, Ok, Err, Result, length, map, nat_lt}
use Rattle.model.specs.declared.order.Order.{Order}
use Rattle.universe.specs.declared.tables.Tables.{Tables}
use Rattle.universe.specs.Reading.{Read}
use Rattle.universe.specs.Refusals.{universe_number}
use Rattle.universe.specs.Tables.{universe_of}
use Rattle.planner.specs.declared.refusal.PlanRefusal.{PlanRefusal}
use Rattle.planner.specs.declared.refusal.PlanRefusal.TheVariants.{Room}
use Rattle.planner.specs.Planning.{planned}
use Rattle.planner.specs.Refusals.{plan_number}
use Rattle.planner.specs.Writing.{line_of}
use Rattle.console.specs.Refused.{refused_line_of}

-- the lines, or the refusal; refused too where the room is less than the number of lines
abbrev pub lines_in : ℕ → Result (List Order) PlanRefusal → Result (List ℕ) (List ℕ)
lines_in room (Ok os) = cond (nat_lt room (length os)) (Err (refused_line_of (plan_number Room))) (Ok (map line_of os))
lines_in room (Err e) = Err (refused_line_of (plan_number e))

-- the lines of the script for the goal in a universe file
abbrev pub planned_lines : List ℕ → ℕ → Read Tables → Result (List ℕ) (List ℕ)
planned_lines goal room (Ok held) = lines_in room (planned (universe_of held) goal)
planned_lines goal room (Err e) = Err (refused_line_of (universe_number e))
