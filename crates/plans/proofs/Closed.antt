-- What the closing order is, for all that is shown of paths and needed pairs. Declares no lemma.
use Rattle.std.proofs.Common.{List, ◌≡◌, ℕ, ◌<◌, ◌≤◌, true, length, ◌≢◌}
use Rattle.std.specs.List.{list_any}
use Rattle.model.specs.declared.pair.Pair.{Pair}
use Rattle.model.specs.Config.{pair}
use Rattle.model.specs.Universe.{Universe, IsPair}
use Rattle.plans.specs.Lists.{listed, pair_at, rank_of}
use Rattle.plans.specs.Closing.{follows, pair_count, parent_rank, provides, supplier_rank}

pub record Closed (u : Universe) (l : List Pair) : Type 0 where
  -- only pairs of the universe are listed, and none twice
  pub pairs : (h : Pair) → listed l h ≡ true → IsPair u h.kind h.state
  pub once : (k : ℕ) → k < length l → rank_of l (pair_at l k) ≡ k
  pub size : length l ≤ pair_count u
  -- the pairs with state 0 are listed
  pub initial : (t : ℕ) → t < u.types → listed l (pair t 0) ≡ true
  -- what a listed pair needs stands before it
  pub parent : (h : Pair) → listed l h ≡ true → h.state ≢ 0 → parent_rank u l h < rank_of l h
  pub supplier : (h : Pair) (p : ℕ) → listed l h ≡ true → u.requires h.kind h.state p ≡ true → supplier_rank u l p < rank_of l h
  -- a pair for which all that it needs is listed is listed too
  pub full : (h : Pair) → IsPair u h.kind h.state → list_any (follows u h) l ≡ true →
      ((p : ℕ) → u.requires h.kind h.state p ≡ true → list_any (provides u p) l ≡ true) → listed l h ≡ true
