use Rattle.std.proofs.Common.{◌<◌, length, arith}
use Rattle.std.proofs.lemmas.List.{take_more}
use Rattle.model.specs.declared.order.Order.TheVariants.{Create}
use Rattle.hosting.proofs.Telling.{told_more}
use Rattle.hosting.proofs.host_report.Goals as goal

pub loop-order-preserved : goal.loop-order-preserved
loop-order-preserved g c =
    let h : c.loop-order.order-index < length c.args.orders.now = omega arith in
    told_more _ _ _ _ _ _ _ _ _ _ _ _ _ c.loop-order.invariant c.in_ok-order_report.ensures
    (take_more c.args.orders.now c.loop-order.order-index (Create 0 0) h) c.in_ok-push_str.ensures.bytes c.deref.ensures
