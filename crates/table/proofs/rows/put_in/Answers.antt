use Rattle.std.proofs.Common.{◌≡◌, ◌+◌, ◌*◌, ◌<◌, ◌≤◌, ◌||◌, eqb, length, ap, subst, arith}
use Rattle.std.proofs.lemmas.List.{get_or_default}
use Rattle.universe.specs.Sets.{has}
use Rattle.table.specs.declared.row.Row.{Row}
use Rattle.table.specs.Rows.{row, rank, blank, Gives}
use Rattle.table.proofs.RowSearch.{read}
use Rattle.table.proofs.RowWork.{put_new, put_there}
use Rattle.table.proofs.rows.put_in.Goals as goal
use Rattle.table.proofs.rows.put_in.Goals.{else-at-len-via-then-at-len+else-rank, else-at-len-via-else-at-len}

pub returns-then-rank-clause-holds : goal.returns-then-rank-clause-holds
returns-then-rank-clause-holds c =
    let xs = c.args.rows.now in
    let n = c.args.len in
    let at = c.args.at in
    let j = c.args.binding in
    let d = c.add.new.self in
    let room : n ≤ length xs = omega (arith, c.requires.room) in
    let lr : at < n = c.if-at-len.true in
    let wide : at < length xs = omega arith in
    let first = read xs at c.index-rows-at.result wide c.index-rows-at.is in
    let again = get_or_default xs at c.index-rows-at-then-rank.result blank wide in
    let is : rank (row xs at) ≡ j.provider * 256 + j.requirer =
    omega (arith, ap rank first, c.rank.ensures, c.rank-then-at-len.ensures, c.if-rank.true, c.of-row.ensures.provider, c.of-row.ensures.requirer) in
    put_there xs n c.requires.formed j.port j.provider j.requirer at c.requires.range.1 c.requires.range.2 room lr is d
    (subst (λ (o : Row). Gives d o.provider o.requirer (λ p. has 32 o.ports p || eqb j.port p)) again c.add.ensures)

pub returns-clause-holds : goal.returns-clause-holds
returns-clause-holds c =
    let xs = c.args.rows.now in
    let n = c.args.len in
    let at = c.args.at in
    let j = c.args.binding in
    let b = c.of-row.result in
    put_new xs n c.requires.formed j.port j.provider j.requirer at c.requires.range.1 c.requires.range.2 c.requires.room c.requires.place b c.of-row.ensures
    (λ lr same. elim c.else-at-len.branch [
      | else-at-len-via-then-at-len+else-rank w ↦
          let wide : at < length xs = omega (arith, c.requires.room) in
          let first = read xs at w.index-rows-at.result wide w.index-rows-at.is in
          absurd (w.if-rank.false (omega (arith, ap rank first, w.rank.ensures, w.rank-then-at-len.ensures, same)))
      | else-at-len-via-else-at-len w ↦ absurd (omega (arith, w.if-at-len.false))
    ])
    c.open_at.new.rows c.open_at.ensures.size c.open_at.ensures.opened
