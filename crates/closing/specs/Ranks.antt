-- The ranks of suppliers and parents, in arrays.
use Rattle.std.specs.Prelude.{◌≡◌, ℕ, ◌+◌, cond, ◌&&◌, List, [], drop, length, nat_lt, slice_index_or}
use Rattle.model.specs.declared.pair.Pair.{Pair}
use Rattle.model.specs.Universe.{Universe}
use Rattle.universe.specs.Sets.{has}
use Rattle.plans.specs.Closing.{follows, parent_rank, provides, supplier_rank}
use Rattle.closing.specs.declared.ranks.Ranks.{Ranks}

-- the row is as before, but has the rank at the numbers below n that are in the set
pub record Marked (w set rank n : ℕ) (before after : List ℕ) : Type 0 where
  pub long : length after ≡ length before
  pub each : (q none : ℕ) → slice_index_or after q none ≡ cond (nat_lt q n && has w set q) rank (slice_index_or before q none)

-- the rank that is told for the supplier of the port
abbrev pub supplier_told : Ranks → ℕ → ℕ → ℕ
supplier_told s none p = slice_index_or s.suppliers p none

-- the rank that is told for the parent of the pair
abbrev pub parent_told : Ranks → ℕ → Pair → ℕ
parent_told s none h = slice_index_or (slice_index_or s.parents h.kind []) h.state none

-- the ranks are as before, but the rank is told for what the pair g provides and for what follows it
pub record Noted (u : Universe) (g : Pair) (rank : ℕ) (before after : Ranks) : Type 0 where
  pub supplier : (p none : ℕ) → supplier_told after none p ≡ cond (provides u p g) rank (supplier_told before none p)
  pub parent : (h : Pair) (none : ℕ) → parent_told after none h ≡ cond (follows u h g) rank (parent_told before none h)

-- among the pairs of l from the rank r on, the ranks are those of the suppliers and parents
pub record Tells (u : Universe) (l : List Pair) (r : ℕ) (s : Ranks) : Type 0 where
  pub supplier : (p : ℕ) → supplier_told s (length l) p ≡ r + supplier_rank u (drop r l) p
  pub parent : (h : Pair) → parent_told s (length l) h ≡ r + parent_rank u (drop r l) h
