-- Rows of text with no text before them. Assumes nothing.
use Rattle.std.proofs.Common.{◌≡◌, ℕ, ◌+◌, List, [], ◌++◌, sym}
use Rattle.console.specs.Described.{rows_below}
use Rattle.console.proofs.Rows.{rows_more, rows_none}

-- before the first row there is no text
pub no_rows : (row : ℕ → List ℕ) → [] ≡ rows_below row 0
no_rows row = sym (rows_none row [])

-- one row more
pub next_row : (row : ℕ → List ℕ) (n : ℕ) → rows_below row (n + 1) ≡ rows_below row n ++ row n
next_row row n = rows_more row [] n
