use Rattle.universe.proofs.Manies.{SoFar}
use Rattle.universe.proofs.Turns.{states_row}
use Rattle.universe.proofs.reading.read_kind.Given as goal

abbrev pub invariant-loop-number : goal.invariant-loop-number
invariant-loop-number l = SoFar (states_row l.ports l.bytes l.count) l.number l.state-items l.rest
