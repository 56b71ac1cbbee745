-- Rows of sets of ports in rising order: what they hold, and what the work on them leaves.
use Rattle.std.specs.Prelude.{◌≡◌, ℕ, ◌+◌, ◌*◌, ◌<◌, ◌≤◌, Bool, ◌&&◌, ◌==◌, ◌≢◌, List, length, slice_index_or, count_ones}
use Rattle.std.proofs.Common.{lit<}
use Rattle.model.specs.Search.{any, sum_below}
use Rattle.universe.specs.Sets.{has}
use Rattle.table.specs.declared.row.Row.{Row}

-- what is read where there is no row
abbrev pub blank : Row
blank = record { provider = 0; requirer = 0; ports = 0; in_range = (lit< tt, lit< tt, lit< tt) }

-- the row i
abbrev pub row : List Row → ℕ → Row
row xs i = slice_index_or xs i blank

-- the number of a row in the order of the rows: by provider, then by requirer
abbrev pub rank : Row → ℕ
rank b = b.provider * 256 + b.requirer

-- the row is from x to y, and its ports are those that pass
pub record Gives (b : Row) (x y : ℕ) (f : ℕ → Bool) : Type 0 where
  pub provider : b.provider ≡ x
  pub requirer : b.requirer ≡ y
  pub ports : (p : ℕ) → has 32 b.ports p ≡ f p

-- the row is from x to y, and has the port p
abbrev pub joins : Row → ℕ → ℕ → ℕ → Bool
joins b p x y = has 32 b.ports p && b.provider == x && b.requirer == y

-- one of the first n rows is from x to y and has the port p
abbrev pub held : List Row → ℕ → ℕ → ℕ → ℕ → Bool
held xs n p x y = any (λ i. joins (row xs i) p x y) n

-- how many bindings the first n rows hold
abbrev pub total : List Row → ℕ → ℕ
total xs n = sum_below (λ i. count_ones (row xs i).ports) n

-- b is one of the first n rows
abbrev pub Among : List Row → ℕ → Row → Type 0
Among xs n b = (i : ℕ) × (i < n) × (row xs i ≡ b)

-- the first n rows rise
abbrev pub Ordered : List Row → ℕ → Type 0
Ordered xs n = (i j : ℕ) → i < j → j < n → rank (row xs i) < rank (row xs j)

-- the first n rows rise, and none is empty
pub record Formed (xs : List Row) (n : ℕ) : Type 0 where
  pub ordered : Ordered xs n
  pub filled : (i : ℕ) → i < n → (row xs i).ports ≢ 0

-- r is where a row of rank k stands among the first n, or would stand
pub record Place (xs : List Row) (n k r : ℕ) : Type 0 where
  pub most : r ≤ n
  pub before : (i : ℕ) → i < r → rank (row xs i) < k
  pub after : (i : ℕ) → r ≤ i → i < n → k ≤ rank (row xs i)

-- of the first n rows, those from r on went up by one place
pub record Opened (xs ys : List Row) (r n : ℕ) : Type 0 where
  pub below : (k : ℕ) → k < r → row ys k ≡ row xs k
  pub above : (k : ℕ) → r ≤ k → k < n → row ys (k + 1) ≡ row xs k

-- r is one of the first n rows, and those behind it went down by one place
pub record Closed (xs ys : List Row) (r n : ℕ) : Type 0 where
  pub inside : r < n
  pub below : (k : ℕ) → k < r → row ys k ≡ row xs k
  pub above : (k : ℕ) → r ≤ k → k + 1 < n → row ys k ≡ row xs (k + 1)

-- the first n rows are there, rise, are not empty, and hold the bindings that pass
pub record Holds (xs : List Row) (n : ℕ) (f : ℕ → ℕ → ℕ → Bool) : Type 0 where
  pub most : n ≤ length xs
  pub formed : Formed xs n
  pub held : (p x y : ℕ) → held xs n p x y ≡ f p x y

-- the first m rows of ys, which rise, are those of the first n of xs whose requirer is not z; the others hold d bindings
pub record Kept (xs ys : List Row) (n m z d : ℕ) : Type 0 where
  pub fewer : m ≤ n
  pub from : (j : ℕ) → j < m → Among xs n (row ys j) × ((row ys j).requirer ≢ z)
  pub all : (i : ℕ) → i < n → (row xs i).requirer ≢ z → Among ys m (row xs i)
  pub ordered : Ordered ys m
  pub counted : total ys m + d ≡ total xs n
