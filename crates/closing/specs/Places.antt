-- Listed pairs in an array.
use Rattle.std.specs.Prelude.{◌≡◌, ℕ, ◌≤◌, List, length, take}
use Rattle.model.specs.declared.pair.Pair.{Pair}

-- the first places of a full array keep the pairs of l
pub record Places (l places : List Pair) (len : ℕ) : Type 0 where
  pub room : length places ≡ 128
  pub within : len ≤ 128
  pub kept : take len places ≡ l
