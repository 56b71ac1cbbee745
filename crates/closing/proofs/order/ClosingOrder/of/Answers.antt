use Rattle.closing.proofs.Lookups.{closing_pairs}
use Rattle.closing.proofs.order.ClosingOrder.of.Goals as goal

pub of-ranks-requires-clause-in_universe : goal.of-ranks-requires-clause-in_universe
of-ranks-requires-clause-in_universe c = rw c.whole-len.ensures.places.kept (closing_pairs c.args.universe.now)
