use Rattle.std.proofs.Common.{◌<◌, ◌&&◌, not, eqb, length, set, sym, ap, ◌∙◌, subst, length-set, arith}
use Rattle.std.proofs.lemmas.List.{get_or-set_same, get_or_default}
use Rattle.universe.specs.Sets.{has}
use Rattle.table.specs.declared.row.Row.{Row}
use Rattle.table.specs.Rows.{blank, Gives}
use Rattle.table.proofs.RowWork.{take_port, take_row}
use Rattle.table.proofs.rows.take_out.Goals as goal

pub returns-then-rows-at-ne0-clause-holds : goal.returns-then-rows-at-ne0-clause-holds
returns-then-rows-at-ne0-clause-holds c =
    let xs = c.args.rows.now in
    let n = c.args.len in
    let at = c.args.at in
    let j = c.args.binding in
    let d = c.remove.new.self in
    let wide : at < length xs = omega (arith, c.requires.in_bounds) in
    let was = get_or_default xs at c.index-rows-at.result blank wide in
    let wide' : at < length (set xs at d) = omega (arith, length-set xs at d) in
    let now = get_or_default (set xs at d) at c.index-rows-at-2.result blank wide' ∙ get_or-set_same xs at d blank wide in
    take_port xs n c.requires.formed j.port j.provider j.requirer at c.requires.range.1 c.requires.range.2
    c.requires.in_bounds.1 c.requires.in_bounds.0 c.requires.place d
    (subst (λ (o : Row). Gives d o.provider o.requirer (λ p. has 32 o.ports p && not (eqb j.port p))) was c.remove.ensures)
    (λ none. c.if-rows-at-ne0.true (ap (λ (b : Row). b.ports) now ∙ none))

pub returns-clause-holds : goal.returns-clause-holds
returns-clause-holds c =
    let xs = c.args.rows.now in
    let n = c.args.len in
    let at = c.args.at in
    let j = c.args.binding in
    let d = c.remove.new.self in
    let wide : at < length xs = omega (arith, c.requires.in_bounds) in
    let was = get_or_default xs at c.index-rows-at.result blank wide in
    let wide' : at < length (set xs at d) = omega (arith, length-set xs at d) in
    let now = get_or_default (set xs at d) at c.index-rows-at-2.result blank wide' ∙ get_or-set_same xs at d blank wide in
    take_row xs n c.requires.formed j.port j.provider j.requirer at c.requires.range.1 c.requires.range.2
    c.requires.in_bounds.1 c.requires.in_bounds.0 c.requires.place d
    (subst (λ (o : Row). Gives d o.provider o.requirer (λ p. has 32 o.ports p && not (eqb j.port p))) was c.remove.ensures)
    (sym (ap (λ (b : Row). b.ports) now) ∙ c.if-rows-at-ne0.false)
    c.close_at.new.rows c.close_at.ensures.size c.close_at.ensures.closed
