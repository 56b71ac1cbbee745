-- The text about a universe file.
use Rattle.std.specs.Prelude.{ℕ, zero, suc, Bool, cond, List, [], ◌++◌, fold, length, Ok, Err, codes, decimal, ◌==◌}
use Rattle.model.specs.Universe.{Universe}
use Rattle.universe.specs.declared.tables.Tables.{Tables}
use Rattle.universe.specs.Reading.{Read}
use Rattle.universe.specs.Refusals.{universe_number}
use Rattle.universe.specs.Tables.{universe_of}

-- nothing is listed
abbrev pub no_bytes : List ℕ → Bool
no_bytes bs = length bs == 0

-- the list with the number n too, behind a comma if it is not the first
abbrev pub listed_with : List ℕ → ℕ → List ℕ
listed_with bs n = bs ++ (cond (no_bytes bs) [] (codes ",") ++ decimal n)

-- the numbers with commas between them
abbrev pub list_of : List ℕ → List ℕ
list_of ns = fold listed_with [] ns

-- the numbers below n that pass, with commas between them
unfoldable pub listed : (ℕ → Bool) → ℕ → List ℕ
listed f zero = []
listed f (suc n) = let bs = listed f n in cond (f n) (listed_with bs n) bs

-- the label and the list, or a dash where the list is empty
abbrev pub labelled_list : List ℕ → List ℕ → List ℕ
labelled_list label bs = label ++ (codes " " ++ cond (no_bytes bs) (codes "-") bs)

-- the label and the numbers below n that pass
unfoldable pub set_text_of : List ℕ → (ℕ → Bool) → ℕ → List ℕ
set_text_of label f n = labelled_list label (listed f n)

-- the texts of the numbers below n, one after the other
unfoldable pub rows_below : (ℕ → List ℕ) → ℕ → List ℕ
rows_below row zero = []
rows_below row (suc n) = rows_below row n ++ row n

-- the line of the state q of the type t
abbrev pub state_line_of : Universe → ℕ → ℕ → List ℕ
state_line_of u t q =
    codes "state " ++ (decimal t ++ (codes "/" ++ (decimal q ++ (codes ": " ++ (
    set_text_of (codes "provides") (u.provides t q) u.ports ++ (codes ", " ++ (set_text_of (codes "requires") (u.requires t q) u.ports ++ (codes ", " ++ (set_text_of (codes "next") (u.next t q) (u.states t) ++ codes "\n")))))))))

-- the line of the type t that has k states
abbrev pub type_line_of : ℕ → ℕ → List ℕ
type_line_of t k = codes "type " ++ (decimal t ++ (codes ": " ++ (decimal k ++ codes " states\n")))

-- the line of the type t, and those of its states
abbrev pub type_lines_of : Universe → ℕ → List ℕ
type_lines_of u t = type_line_of t (u.states t) ++ rows_below (state_line_of u t) (u.states t)

-- the line of the counts
abbrev pub counts_line_of : ℕ → ℕ → List ℕ
counts_line_of types ports = codes "types " ++ (decimal types ++ (codes ", ports " ++ (decimal ports ++ codes "\n")))

-- what is printed of a universe: its counts, its types and their states
abbrev pub universe_text_of : Universe → List ℕ
universe_text_of u = counts_line_of u.types u.ports ++ rows_below (type_lines_of u) u.types

-- what is printed of a file: the text of the universe that was read, or the line of the refusal
abbrev pub report_of : Read Tables → List ℕ
report_of (Ok held) = universe_text_of (universe_of held)
report_of (Err e) = codes "refused " ++ (decimal (universe_number e) ++ codes "\n")
