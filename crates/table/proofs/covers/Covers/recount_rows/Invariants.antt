use Rattle.universe.specs.Sets.{has}
use Rattle.table.specs.Covers.{Recounted, by_rows}
use Rattle.table.proofs.covers.Covers.recount_rows.Given as goal

-- so many rows were recounted
abbrev pub invariant-loop-row : goal.invariant-loop-row
invariant-loop-row l =
    Recounted l.initial.self.counts l.self.counts
    (by_rows l.rows l.row-index l.instance (has 32 l.before)) (by_rows l.rows l.row-index l.instance (has 32 l.after))
