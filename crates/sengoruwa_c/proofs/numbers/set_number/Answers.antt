use Rattle.std.proofs.Common.{◌%◌, ◌≢◌, ◌∙◌, arith}
use Rattle.std.proofs.lemmas.Bool.{ne_eqb}
use Rattle.sengoruwa_c.proofs.Telling.{provided_packed, required_packed, successors_packed}
use Rattle.sengoruwa_c.proofs.numbers.set_number.Goals as goal

pub returns-in-0 : goal.returns-in-0
returns-in-0 c = rw c.in-0.is (provided_packed c.args.universe.now.tables _ _ c.entry-state.result c.entry-state.ensures (omega arith))

pub returns-in-1 : goal.returns-in-1
returns-in-1 c = rw c.in-1.is (required_packed c.args.universe.now.tables _ _ c.entry-state.result c.entry-state.ensures (omega arith))

pub returns-in_default : goal.returns-in_default
returns-in_default c =
    let first : c.args.place % 3 ≢ 0 = omega arith in
    let second : c.args.place % 3 ≢ 1 = omega arith in
    rw (ne_eqb (c.args.place % 3) 0 first, ne_eqb (c.args.place % 3) 1 second)
    (c.from.ensures ∙ successors_packed c.args.universe.now.tables _ _ c.entry-state.result c.entry-state.ensures (omega arith))
