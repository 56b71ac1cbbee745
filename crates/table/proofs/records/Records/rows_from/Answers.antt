use Rattle.std.proofs.Common.{◌≤◌, length, arith}
use Rattle.table.specs.Fit.{standing}
use Rattle.table.proofs.RowSearch.{places_rise, rows_between}
use Rattle.table.proofs.records.Records.rows_from.Goals as goal

pub returns : goal.returns
returns c =
    let t = c.args.self.now in
    let room : t.len ≤ length t.rows = omega (arith, t.fit.most, t.fit.room) in
    rows_between (standing t.slots) t.rows t.len c.args.instance c.place_of-first.result c.place_of-end.result t.fit.formed.ordered room
    c.place_of-first.ensures c.place_of-end.ensures

pub slice_bounds-result-count : goal.slice_bounds-result-count
slice_bounds-result-count c =
    let t = c.args.self.now in
    places_rise t.rows t.len _ _ _ _ c.place_of-first.ensures c.place_of-end.ensures (omega arith)

pub slice_bounds-result-start : goal.slice_bounds-result-start
slice_bounds-result-start c =
    let t = c.args.self.now in
    places_rise t.rows t.len _ _ _ _ c.place_of-first.ensures c.place_of-end.ensures (omega arith)
