use Rattle.closing.specs.Order.{pairs_in_order, universe_in_order}
use Rattle.plans.proofs.Needing.{needed_listed}
use Rattle.planner.proofs.plan.write_script.Goals as goal

pub of-plan-requires-clause-listed : goal.of-plan-requires-clause-listed
of-plan-requires-clause-listed c = λ h e.
    needed_listed (universe_in_order c.args.order.now) (pairs_in_order c.args.order.now) _ h
    (rw (c.pairs.ensures, c.needed_pairs-needed.ensures.pairs) at e)
