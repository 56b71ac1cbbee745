use Rattle.universe.proofs.Manies.{SoFar}
use Rattle.universe.proofs.Turns.{kinds_row}
use Rattle.universe.proofs.reading.read_tables.Given as goal

abbrev pub invariant-loop-kind : goal.invariant-loop-kind
invariant-loop-kind l = SoFar (kinds_row l.bytes l.header) l.kind-index l.kind-items l.rest
