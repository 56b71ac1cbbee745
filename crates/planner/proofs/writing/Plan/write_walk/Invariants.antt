use Rattle.closing.specs.Order.{universe_in_order}
use Rattle.planner.specs.Writing.{plan_on}
use Rattle.planner.proofs.Linking.{Walked}
use Rattle.planner.proofs.writing.Plan.write_walk.Given as goal

abbrev pub invariant-loop-to : goal.invariant-loop-to
invariant-loop-to l =
    Walked (universe_in_order l.self.order.now) (plan_on l.self.order.now l.self.pairs.now) l.number l.states l.fn.lines l.fn.place
    l.to-index l.from l.lines l.place
