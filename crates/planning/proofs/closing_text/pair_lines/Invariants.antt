use Rattle.std.proofs.Common.{◌≡◌, string_bytes}
use Rattle.std.specs.List.{slice_get}
use Rattle.closing.specs.Order.{pairs_in_order, universe_in_order}
use Rattle.console.specs.Described.{rows_below}
use Rattle.planning.specs.Closing.{rank_text}
use Rattle.planning.proofs.closing_text.pair_lines.Given as goal

abbrev pub invariant-loop-rank : goal.invariant-loop-rank
invariant-loop-rank l =
    let u = universe_in_order l.order in
    let ps = pairs_in_order l.order in
    string_bytes l.text ≡ rows_below (λ rank. rank_text u ps rank (slice_get ps rank)) l.rank
