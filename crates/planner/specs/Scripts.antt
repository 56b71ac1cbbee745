-- What a plan of the code means.
use Rattle.model.specs.Universe.{Universe}
use Rattle.plans.specs.Plan.{Plan}
use Rattle.closing.specs.Order.{universe_in_order}
use Rattle.planner.specs.Writing.{plan_on}
use Rattle.planner.specs.declared.writing.Plan.{Plan as Held}

-- its universe
abbrev pub universe_planned : Held → Universe
universe_planned p = universe_in_order p.order.now

-- the plan for its pairs
abbrev pub plan_of : Held → Plan
plan_of p = plan_on p.order.now p.pairs.now
