use Rattle.plans.specs.Lists.{rank_of}
use Rattle.closing.specs.Order.{pairs_in_order}
use Rattle.planner.proofs.Climbing.{Climb}
use Rattle.planner.proofs.path.path_of.Given as goal

abbrev pub invariant-loop-at : goal.invariant-loop-at
invariant-loop-at l = Climb l.order l.fn.pair l.path l.at

abbrev pub decreases-loop-at : goal.decreases-loop-at
decreases-loop-at l = rank_of (pairs_in_order l.order) l.at
