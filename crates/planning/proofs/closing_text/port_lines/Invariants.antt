use Rattle.std.proofs.Common.{◌≡◌, string_bytes}
use Rattle.closing.specs.Order.{pairs_in_order, universe_in_order}
use Rattle.console.specs.Described.{rows_below}
use Rattle.planning.specs.Closing.{port_line_of}
use Rattle.planning.proofs.closing_text.port_lines.Given as goal

abbrev pub invariant-loop-port : goal.invariant-loop-port
invariant-loop-port l = string_bytes l.text ≡ rows_below (port_line_of (universe_in_order l.order) (pairs_in_order l.order)) l.port
