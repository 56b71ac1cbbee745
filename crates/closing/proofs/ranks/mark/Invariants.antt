use Rattle.closing.specs.Ranks.{Marked}
use Rattle.closing.proofs.ranks.mark.Given as goal

abbrev pub invariant-loop-number : goal.invariant-loop-number
invariant-loop-number g l = Marked g.F.Field.WIDTH (g.F.Field.bits l.set) l.rank l.number l.fn.row l.row
