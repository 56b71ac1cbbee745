use Rattle.std.proofs.Common.{◌≡◌, length, arith}
use Rattle.universe.specs.Sets.{has}
use Rattle.table.specs.Records.{config_of}
use Rattle.table.proofs.RowSearch.{read}
use Rattle.table.proofs.CoverTurns.{next_ready, next_recounted, recounted_rows, recounted_none}
use Rattle.table.proofs.covers.Covers.recount_rows.Goals as goal

pub loop-row-init : goal.loop-row-init
loop-row-init c = recounted_none _ _ _ _ _

pub recount-requires : goal.recount-requires
recount-requires c =
    let rows = c.rows_from-rows.result.now in
    let i = c.loop-row.row-index in
    rw (read rows i c.row-item.result c.loop-row-test.true c.row-item.is)
    (next_ready (config_of c.args.records.now) c.args.instance i rows c.args.self.now.counts c.loop-row.self.counts (has 32 c.args.before) (has 32 c.args.after)
    c.rows_from-rows.ensures c.loop-row-test.true c.requires.ready c.loop-row.invariant)

pub loop-row-preserved : goal.loop-row-preserved
loop-row-preserved c =
    let rows = c.rows_from-rows.result.now in
    let i = c.loop-row.row-index in
    let recounted = rw (read rows i c.row-item.result c.loop-row-test.true c.row-item.is) at c.recount.ensures in
    next_recounted (config_of c.args.records.now) c.args.instance i rows c.args.self.now.counts c.loop-row.self.counts (has 32 c.args.before) (has 32 c.args.after)
    c.rows_from-rows.ensures c.loop-row-test.true c.requires.ready c.loop-row.invariant c.recount.new.self.counts recounted

pub returns : goal.returns
returns c =
    let rows = c.rows_from-rows.result.now in
    let i = c.loop-row.row-index in
    let all : i ≡ length rows = omega arith in
    recounted_rows (config_of c.args.records.now) c.args.instance rows c.args.self.now.counts c.loop-row.self.counts (has 32 c.args.before) (has 32 c.args.after)
    c.rows_from-rows.ensures (rw all at c.loop-row.invariant)
