-- Counts of the bindings that cover each port, and what the work on them leaves.
use Rattle.std.specs.Prelude.{◌≡◌, ℕ, ◌+◌, ◌*◌, ◌<◌, ◌≤◌, Bool, true, cond, ◌&&◌, ◌==◌, List, Option, length, nat_lt, slice_index}
use Rattle.model.specs.declared.pair.Pair.{Pair}
use Rattle.model.specs.Search.{one}
use Rattle.model.specs.Universe.{Universe}
use Rattle.model.specs.Config.{Config, provided}
use Rattle.model.specs.Bounded.{covers}
use Rattle.universe.specs.Sets.{has}
use Rattle.table.specs.declared.row.Row.{Row}
use Rattle.table.specs.Rows.{row, joins, held, Ordered}

-- the count of the port p at the requirer y
unfoldable pub count : List ℕ → ℕ → ℕ → ℕ
count xs p y = slice_index xs (y * 32 + p)

-- the same, and 0 for what is out of range
abbrev pub count_within : List ℕ → ℕ → ℕ → ℕ
count_within xs p y = cond (nat_lt p 32 && nat_lt y 256) (count xs p y) 0

-- each count is how many bindings cover the port
pub record Counted (u : Universe) (c : Config) (xs : List ℕ) : Type 0 where
  pub at : (p y : ℕ) → p < 32 → y < 256 → count xs p y ≡ covers 256 u c y p

-- what stands under a number is in a state that provides the port
unfoldable pub provides : Universe → Option Pair → ℕ → Bool
provides u o p = provided u p o

-- the port p is q, the requirer y is z, and p passes
unfoldable pub by_port : ℕ → ℕ → (ℕ → Bool) → ℕ → ℕ → Bool
by_port q z f p y = q == p && z == y && f p

-- the row is to y and has the port p, and p passes
unfoldable pub by_row : Row → (ℕ → Bool) → ℕ → ℕ → Bool
by_row b f p y = joins b p b.provider y && f p

-- one of the first n rows is from z to y and has the port p, and p passes
unfoldable pub by_rows : List Row → ℕ → ℕ → (ℕ → Bool) → ℕ → ℕ → Bool
by_rows xs n z f p y = held xs n p z y && f p

-- the binding on the port p from z to y stands, and p passes
unfoldable pub by_provider : Config → ℕ → (ℕ → Bool) → ℕ → ℕ → Bool
by_provider c z f p y = c.bound p z y && f p

-- where f passes the count is at least one, and each count has room for one more
pub record Ready (xs : List ℕ) (f : ℕ → ℕ → Bool) : Type 0 where
  pub least : (p y : ℕ) → p < 32 → y < 256 → one (f p y) ≤ count xs p y
  pub room : (p y : ℕ) → p < 32 → y < 256 → count xs p y < 65535

-- the same at the ports of the row
pub record ReadyRow (xs : List ℕ) (b : Row) (f : ℕ → Bool) : Type 0 where
  pub least : (p : ℕ) → has 32 b.ports p ≡ true → one (f p) ≤ count xs p b.requirer
  pub room : (p : ℕ) → has 32 b.ports p ≡ true → count xs p b.requirer < 65535

-- where f passes the count is one less, and where g passes one more
pub record Recounted (xs ys : List ℕ) (f g : ℕ → ℕ → Bool) : Type 0 where
  pub at : (p y : ℕ) → p < 32 → y < 256 → count ys p y + one (f p y) ≡ count xs p y + one (g p y)

-- the counts of the requirer z are 0, and the others stay
pub record Cleared (xs ys : List ℕ) (z : ℕ) : Type 0 where
  pub none : (p : ℕ) → p < 32 → count ys p z ≡ 0
  pub others : (p y : ℕ) → p < 32 → y < 256 → (y ≡ z → ⊥) → count ys p y ≡ count xs p y

-- the rows are those of the provider z, and rise
pub record RowsFrom (c : Config) (z : ℕ) (xs : List Row) : Type 0 where
  pub provider : (i : ℕ) → i < length xs → (row xs i).provider ≡ z
  pub held : (p y : ℕ) → held xs (length xs) p z y ≡ c.bound p z y
  pub ordered : Ordered xs (length xs)
