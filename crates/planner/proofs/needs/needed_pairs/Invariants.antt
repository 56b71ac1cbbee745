use Rattle.closing.specs.Order.{pairs_in_order, universe_in_order}
use Rattle.planner.specs.Goals.{goal_of}
use Rattle.planner.proofs.Wanting.{Turn}
use Rattle.planner.proofs.needs.needed_pairs.Given as goal

abbrev pub invariant-loop-rank : goal.invariant-loop-rank
invariant-loop-rank l = Turn (universe_in_order l.order) (pairs_in_order l.order) (goal_of l.goal) l.rank l.needed l.required
