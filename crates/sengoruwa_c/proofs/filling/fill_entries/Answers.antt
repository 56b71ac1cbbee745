use Rattle.std.proofs.Common.{rules}
use Rattle.sengoruwa_c.proofs.Places.{filled_all, filled_more}
use Rattle.sengoruwa_c.proofs.filling.fill_entries.Goals as goal

pub loop-place-preserved : goal.loop-place-preserved
loop-place-preserved c =
    filled_more _ c.args.entries.now c.loop-place.entries c.loop-place.place c.min-place-end.result _ c.entry_number.result c.min-place-end.ensures c.loop-place-test.true (search rules) c.loop-place.invariant

pub returns : goal.returns
returns c =
    filled_all _ c.args.entries.now c.loop-place.entries c.loop-place.place c.min-place-end.result _ c.min-place-end.ensures c.loop-place.auto.place-end c.loop-place-test.false c.loop-place.invariant
