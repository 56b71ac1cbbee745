use Rattle.std.proofs.Common.{◌∙◌, sym}
use Rattle.universe.proofs.PackedSets.{has_below}
use Rattle.planner.proofs.Placing.{wrote_first, wrote_more}
use Rattle.planner.proofs.Linking.{wrote_if, wrote_unless}
use Rattle.planner.proofs.writing.Plan.write_ports.Goals.{then-has, else-has}
use Rattle.planner.proofs.writing.Plan.write_ports.Goals as goal

pub loop-port-init : goal.loop-port-init
loop-port-init c = wrote_first _ c.args.lines.now c.args.place

pub write_link-place-requires : goal.write_link-place-requires
write_link-place-requires c = has_below 32 c.args.ports c.loop-port.port (sym c.has.ensures ∙ c.if-has.true)

pub loop-port-preserved : goal.loop-port-preserved
loop-port-preserved c = wrote_more _ c.loop-port.port c.loop-port.invariant
    (elim c.if-has.branch [
      | then-has w ↦
          rw (w.lines-is, w.place-is)
          (wrote_if _ (sym c.has.ensures ∙ w.if-has.true) w.write_link-place.ensures)
      | else-has w ↦
          rw (w.lines-is, w.place-is) (wrote_unless _ _ _ (sym c.has.ensures ∙ w.if-has.false))
    ])
