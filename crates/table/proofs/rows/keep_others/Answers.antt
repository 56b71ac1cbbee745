use Rattle.std.proofs.Common.{◌<◌, ◌==◌, length, sym, ap, ◌∙◌, arith}
use Rattle.std.proofs.lemmas.Bool.{eqb-true, eqb-false}
use Rattle.table.specs.declared.row.Row.{Row}
use Rattle.table.proofs.RowSearch.{read}
use Rattle.table.proofs.RowTurns.{dropped_few, keep_one, keep_not, keep_rest}
use Rattle.table.proofs.rows.keep_others.Goals as goal
use Rattle.table.proofs.rows.keep_others.Goals.{then-ends_at, else-ends_at}

pub overflow_add-dropped : goal.overflow_add-dropped
overflow_add-dropped c =
    let xs = c.args.rows.now in
    let ys = c.loop-i.rows in
    let i = c.loop-i.i in
    let li : i < c.args.len = c.loop-i-test.true in
    let room : i < length ys = omega arith in
    let is = ap (λ (b : Row). b.ports) (read ys i c.index-rows-i.result room c.index-rows-i.is) in
    let few = dropped_few xs ys c.args.len i c.loop-i.left c.args.instance c.loop-i.dropped c.requires.formed.ordered li c.loop-i.invariant.0 c.loop-i.invariant.1 in
    rw is (omega (arith, few))

pub loop-i-preserved : goal.loop-i-preserved
loop-i-preserved c =
    let xs = c.args.rows.now in
    let ys = c.loop-i.rows in
    let n = c.args.len in
    let i = c.loop-i.i in
    let m = c.loop-i.left in
    let z = c.args.instance in
    let o = c.requires.formed.ordered in
    let kept = c.loop-i.invariant.0 in
    let rest = c.loop-i.invariant.1 in
    let li : i < n = c.loop-i-test.true in
    let room : i < length ys = omega arith in
    let is = read ys i c.index-rows-i.result room c.index-rows-i.is in
    let test = ap (λ (b : Row). b.requirer == z) (sym is) ∙ sym c.ends_at.ensures in
    elim c.if-ends_at.branch [
      | then-ends_at w ↦
          rw (w.rows-is, w.left-is, w.dropped-is, is) (
            keep_not xs ys n i m z c.loop-i.dropped o li kept rest (eqb-true _ _ (test ∙ w.if-ends_at.true)),
            λ k l. rest k (omega arith),
          )
      | else-ends_at w ↦
          let ne = eqb-false _ _ (test ∙ w.if-ends_at.false) in
          rw (w.rows-is, w.left-is, w.dropped-is, is) (
            keep_one xs ys n i m z c.loop-i.dropped o li kept rest room ne,
            keep_rest xs ys n i m z c.loop-i.dropped o li kept rest room ne,
          )
    ]
