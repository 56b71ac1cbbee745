use Rattle.std.proofs.Common.{take}
use Rattle.planner.proofs.Wanting.{Collects}
use Rattle.planner.proofs.needs.path_ports.Given as goal

abbrev pub invariant-loop-state : goal.invariant-loop-state
invariant-loop-state l = Collects l.order.universe.tables l.pair.kind l.ports (take l.state-index l.state-items)
