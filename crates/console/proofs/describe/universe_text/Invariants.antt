use Rattle.std.proofs.Common.{◌≡◌, ◌++◌, string_bytes}
use Rattle.universe.specs.Tables.{universe_of}
use Rattle.console.specs.Described.{rows_below, type_lines_of, counts_line_of}
use Rattle.console.proofs.describe.universe_text.Given as goal

abbrev pub invariant-loop-kind : goal.invariant-loop-kind
invariant-loop-kind l =
    let u = universe_of l.universe.tables in
    string_bytes l.text ≡ counts_line_of u.types u.ports ++ rows_below (type_lines_of u) l.kind
