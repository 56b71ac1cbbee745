use Rattle.planner.specs.Writing.{Wrote, links, plan_on}
use Rattle.planner.proofs.writing.Plan.write_ports.Given as goal

abbrev pub invariant-loop-port : goal.invariant-loop-port
invariant-loop-port l =
    Wrote l.fn.lines l.fn.place
    (links l.port l.link (plan_on l.self.order.now l.self.pairs.now).supplier l.number l.ports) l.lines l.place
