use Rattle.std.proofs.Common.{arith}
use Rattle.planner.proofs.Placing.{wrote_first}
use Rattle.planner.proofs.Linking.{wrote_instance, wrote_script}
use Rattle.planner.proofs.writing.Plan.write.Goals as goal

pub loop-number-init : goal.loop-number-init
loop-number-init c = wrote_first _ c.args.lines.now 0

pub loop-number-preserved : goal.loop-number-preserved
loop-number-preserved c =
    wrote_instance c.args.self.now.order.now c.args.self.now.pairs.now c.loop-number.number c.loop-number.invariant
    c.write_instance-place.ensures

pub returns : goal.returns
returns c =
    wrote_script c.args.self.now.order.now c.args.self.now.pairs.now c.loop-number.number (omega arith) c.loop-number.invariant
