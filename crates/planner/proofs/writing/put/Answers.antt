use Rattle.std.proofs.Common.{arith}
use Rattle.planner.proofs.Placing.{wrote_past, wrote_there}
use Rattle.planner.proofs.writing.put.Goals as goal

pub returns-then-place-lines : goal.returns-then-place-lines
returns-then-place-lines c =
    rw c.saturating_add.ensures (wrote_past c.args.lines.now c.args.place c.args.order c.if-place-lines.true)

pub returns : goal.returns
returns c = rw c.line_of.ensures (wrote_there c.args.lines.now c.args.place c.args.order (omega arith))
