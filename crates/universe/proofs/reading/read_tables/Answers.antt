use Rattle.std.proofs.Common.{refl}
use Rattle.universe.proofs.Turns.{tables_begin, tables_more}
use Rattle.universe.proofs.reading.read_tables.Goals as goal

pub loop-kind-init : goal.loop-kind-init
loop-kind-init c = tables_begin c.args.bytes.now c.in_ok-header.header c.from.result _ c.in_ok-header.rest.now c.in_ok-header.ensures.bound refl c.from.ensures c.in_ok-header.ensures.value.0 c.in_ok-header.ensures.value.1 c.in_ok-header.ensures.value.2

pub loop-kind-preserved : goal.loop-kind-preserved
loop-kind-preserved c = tables_more c.args.bytes.now c.in_ok-header.header c.from.result _ c.loop-kind.rest.now c.in_ok-header.ensures.bound refl c.from.ensures c.loop-kind.kind-index c.loop-kind.kind-items c.loop-kind.invariant c.loop-kind-test.true _ _ c.in_ok-kind.ensures.0 c.in_ok-kind.ensures.1 c.in_ok-kind.ensures.2
