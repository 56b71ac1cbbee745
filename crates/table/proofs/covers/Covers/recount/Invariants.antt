use Rattle.universe.specs.Sets.{has}
use Rattle.table.proofs.CoverTurns.{Left}
use Rattle.table.proofs.covers.Covers.recount.Given as goal

-- the ports that are not left were recounted
abbrev pub invariant-loop-left : goal.invariant-loop-left
invariant-loop-left l = Left l.initial.self.counts l.self.counts l.row l.left (has 32 l.before) (has 32 l.after)

abbrev pub decreases-loop-left : goal.decreases-loop-left
decreases-loop-left l = l.left
