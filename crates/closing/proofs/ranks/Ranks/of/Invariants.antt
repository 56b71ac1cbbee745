use Rattle.universe.specs.Held.{universe_in}
use Rattle.closing.specs.Ranks.{Tells}
use Rattle.closing.proofs.ranks.Ranks.of.Given as goal

abbrev pub invariant-loop-rank : goal.invariant-loop-rank
invariant-loop-rank l = Tells (universe_in l.universe) l.pairs l.rank l.ranks
