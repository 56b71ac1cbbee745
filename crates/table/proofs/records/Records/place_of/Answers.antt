use Rattle.std.proofs.Common.{◌≤◌, length, ltb, rules, arith}
use Rattle.std.proofs.lemmas.List.Sorted.{IsPartitionPoint-from_clause}
use Rattle.table.specs.Rows.{rank}
use Rattle.table.proofs.RowTurns.{partition_place, rows_parted}
use Rattle.table.proofs.records.Records.place_of.Goals as goal

pub returns : goal.returns
returns c =
    let t = c.args.self.now in
    let used = c.used_rows.ensures in
    let room : t.len ≤ length t.rows = omega (arith, t.fit.most, t.fit.room) in
    partition_place t.rows t.len c.args.rank c.partition_point.result room (rw used at c.partition_point.ensures.bound)
    (rw used at (IsPartitionPoint-from_clause (λ b. ltb (rank b) c.args.rank) c.used_rows.result.now c.partition_point.result c.partition_point.ensures.partitioned
    (rw used (rows_parted t.rows t.len c.args.rank room t.fit.formed.ordered))
    (λ a r f k. search rules)))
