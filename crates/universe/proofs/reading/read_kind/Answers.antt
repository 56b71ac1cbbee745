use Rattle.std.proofs.Common.{refl}
use Rattle.universe.proofs.Turns.{kind_begins, kind_done, kind_more}
use Rattle.universe.proofs.reading.read_kind.Goals as goal

pub loop-number-init : goal.loop-number-init
loop-number-init c = kind_begins c.args.ports c.args.bytes.now c.in_ok-count.count c.from.result _ c.in_ok-count.rest.now c.in_ok-count.ensures.bound refl c.from.ensures c.in_ok-count.ensures.value.0 c.in_ok-count.ensures.value.1 c.in_ok-count.ensures.value.2

pub loop-number-preserved : goal.loop-number-preserved
loop-number-preserved c = kind_more c.args.ports c.args.bytes.now c.in_ok-count.count c.from.result _ c.loop-number.rest.now c.in_ok-count.ensures.bound refl c.from.ensures c.loop-number.number c.loop-number.state-items c.loop-number.invariant c.loop-number-test.true _ _ c.in_ok-state.ensures.0 c.in_ok-state.ensures.1 c.in_ok-state.ensures.2

pub returns : goal.returns
returns c = kind_done c.args.ports c.args.bytes.now c.in_ok-count.count c.from.result _ c.loop-number.rest.now c.in_ok-count.ensures.bound refl c.from.ensures c.loop-number.number c.loop-number.state-items c.loop-number.invariant c.loop-number-test.false
