-- What the arrays and numbers of the records stand for, and what holds of them at all times.
use Rattle.std.specs.Prelude.{◌≡◌, ℕ, ◌<◌, ◌≤◌, cond, List, length, None, Option, nat_lt, slice_index_or, true}
use Rattle.model.specs.declared.pair.Pair.{Pair}
use Rattle.model.specs.Config.{Config}
use Rattle.model.specs.Counts.{instances, bindings}
use Rattle.universe.specs.Sets.{has}
use Rattle.table.specs.declared.row.Row.{Row}
use Rattle.table.specs.Rows.{held, row, Formed}

-- what stands under the number z
abbrev pub standing : List (Option Pair) → ℕ → Option Pair
standing slots z = cond (nat_lt z 256) (slice_index_or slots z None) None

-- the configuration of slots and of the first n rows
abbrev pub config : List (Option Pair) → List Row → ℕ → Config
config slots rows n = record { inst = standing slots; bound = held rows n }

-- full arrays, rows that rise and are not empty, and right counts of the instances and the bindings
pub record Fit (slots : List (Option Pair)) (rows : List Row) (len count bound : ℕ) : Type 0 where
  pub sized : length slots ≡ 256
  pub room : length rows ≡ 2048
  pub most : len ≤ 2048
  pub formed : Formed rows len
  pub counted : count ≡ instances 256 (config slots rows len)
  pub bound_counted : bound ≡ bindings 32 256 (config slots rows len)

-- the ports of the first n rows are below m
abbrev pub Ranged : ℕ → List Row → ℕ → Type 0
Ranged m rows n = (i p : ℕ) → i < n → has 32 (row rows i).ports p ≡ true → p < m
