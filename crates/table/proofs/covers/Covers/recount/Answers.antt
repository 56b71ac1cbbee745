use Rattle.std.proofs.Common.{◌≡◌, arith}
use Rattle.universe.specs.Sets.{has}
use Rattle.universe.proofs.PackedSets.{has_below}
use Rattle.table.proofs.CoverTurns.{left_first, left_next, left_none, port_least, port_room}
use Rattle.table.proofs.covers.Covers.recount.Goals as goal

pub loop-left-init : goal.loop-left-init
loop-left-init c = left_first c.args.row c.args.self.now.counts c.args.before c.args.after

pub recount_port-requires-clause-low : goal.recount_port-requires-clause-low
recount_port-requires-clause-low c =
    (has_below 32 c.loop-left.left c.last_of-port.result c.last_of-port.ensures, omega (arith, c.from.ensures, c.args.row.in_range.1))

pub recount_port-requires-clause-counted : goal.recount_port-requires-clause-counted
recount_port-requires-clause-counted c =
    rw c.from.ensures
    (port_least c.args.row c.last_of-port.result c.loop-left.left c.args.self.now.counts c.loop-left.self.counts (has 32 c.args.before) (has 32 c.args.after)
    c.loop-left.invariant c.last_of-port.ensures c.requires)

pub recount_port-requires-clause-room : goal.recount_port-requires-clause-room
recount_port-requires-clause-room c =
    rw c.from.ensures
    (port_room c.args.row c.last_of-port.result c.loop-left.left c.args.self.now.counts c.loop-left.self.counts (has 32 c.args.before) (has 32 c.args.after)
    c.loop-left.invariant c.last_of-port.ensures c.requires)

pub without-left-requires : goal.without-left-requires
without-left-requires c = has_below 32 c.loop-left.left c.last_of-port.result c.last_of-port.ensures

pub loop-left-preserved : goal.loop-left-preserved
loop-left-preserved c =
    left_next c.args.row c.last_of-port.result c.loop-left.left c.args.self.now.counts c.loop-left.self.counts (has 32 c.args.before) (has 32 c.args.after)
    c.loop-left.invariant c.last_of-port.ensures c.without-left.result c.without-left.ensures.ports c.recount_port.new.self.counts
    (rw c.from.ensures at c.recount_port.ensures)

pub returns : goal.returns
returns c =
    let none : c.loop-left.left ≡ 0 = c.loop-left-test.false in
    left_none c.args.row c.args.self.now.counts c.loop-left.self.counts (has 32 c.args.before) (has 32 c.args.after) (rw none at c.loop-left.invariant)
