use Rattle.std.proofs.Common.{◌≡◌, ◌++◌, string_bytes}
use Rattle.universe.specs.Tables.{universe_of}
use Rattle.console.specs.Described.{rows_below, state_line_of, type_line_of}
use Rattle.console.proofs.describe.type_lines.Given as goal

abbrev pub invariant-loop-state : goal.invariant-loop-state
invariant-loop-state l =
    let u = universe_of l.universe.tables in
    string_bytes l.text ≡ type_line_of l.kind (u.states l.kind) ++ rows_below (state_line_of u l.kind) l.state
