use Rattle.planner.proofs.Wanting.{collect_more, collect_none}
use Rattle.planner.proofs.needs.path_ports.Goals as goal

pub loop-state-init : goal.loop-state-init
loop-state-init c = collect_none c.args.order.now.universe.tables c.args.pair.kind

pub loop-state-preserved : goal.loop-state-preserved
loop-state-preserved c =
    let entry = rw (c.universe.ensures, c.from.ensures, c.from-in-loop-state.ensures) at c.entry-ports.ensures in
    collect_more c.args.order.now.universe.tables c.args.pair.kind c.states-state-items.result.now c.loop-state.state-index
    c.loop-state.ports c.entry-ports.result c.loop-state-test.true entry c.loop-state.invariant
