-- The text about a closing order.
use Rattle.std.specs.Prelude.{ℕ, Bool, cond, List, [], ◌++◌, length, Some, None, Ok, Err, Option, Result, codes, decimal, slice_get, ◌==◌}
use Rattle.model.specs.declared.pair.Pair.{Pair}
use Rattle.model.specs.Universe.{Universe}
use Rattle.universe.specs.declared.tables.Tables.{Tables}
use Rattle.universe.specs.Reading.{Read}
use Rattle.universe.specs.Refusals.{universe_number}
use Rattle.universe.specs.Tables.{universe_of}
use Rattle.plans.specs.Closing.{closing, parent_rank, supplier_rank}
use Rattle.console.specs.Described.{rows_below}
use Rattle.console.specs.Refused.{refused_line_of}

-- the number, or a dash where the test holds
abbrev pub number_unless : Bool → ℕ → List ℕ
number_unless b n = cond b (codes "-") (decimal n)

-- the line of the listed pair at a rank: the rank, type and state, and the rank of the parent; state 0 has none
abbrev pub pair_line_of : Universe → List Pair → ℕ → Pair → List ℕ
pair_line_of u l rank h =
    decimal rank ++ (codes " " ++ (decimal h.kind ++ (codes "/" ++ (decimal h.state ++ (codes " parent " ++ (number_unless (h.state == 0) (parent_rank u l h) ++ codes "\n"))))))

-- the line at a rank; none where no pair has it
abbrev pub rank_text : Universe → List Pair → ℕ → Option Pair → List ℕ
rank_text u l rank (Some h) = pair_line_of u l rank h
rank_text u l rank None = []

-- the line of a port: its supplier's rank, if it has one
abbrev pub port_line_of : Universe → List Pair → ℕ → List ℕ
port_line_of u l p =
    codes "port " ++ (decimal p ++ (codes " supplier " ++ (number_unless (supplier_rank u l p == length l) (supplier_rank u l p) ++ codes "\n")))

-- the listed pairs by rank
abbrev pub pair_lines_of : Universe → List Pair → List ℕ
pair_lines_of u l = rows_below (λ rank. rank_text u l rank (slice_get l rank)) (length l)

-- the ports
abbrev pub port_lines_of : Universe → List Pair → List ℕ
port_lines_of u l = rows_below (port_line_of u l) u.ports

-- the pairs, then the ports
abbrev pub closing_text_of : Universe → List Pair → List ℕ
closing_text_of u l = pair_lines_of u l ++ port_lines_of u l

-- what is printed of a file: the text of the closing order, or the refusal of the universe
abbrev pub closing_report_of : Read Tables → Result (List ℕ) (List ℕ)
closing_report_of (Ok held) = Ok (closing_text_of (universe_of held) (closing (universe_of held)))
closing_report_of (Err e) = Err (refused_line_of (universe_number e))
