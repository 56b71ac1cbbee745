-- The path of a pair, and the pairs that a goal needs.
use Rattle.std.specs.Prelude.{ℕ, zero, suc, Bool, cond, ◌&&◌, ◌||◌, List, [], ◌∷◌, ◌++◌, length, ◌==◌}
use Rattle.std.specs.List.{list_any}
use Rattle.model.specs.declared.pair.Pair.{Pair}
use Rattle.model.specs.Search.{any}
use Rattle.model.specs.Universe.{Universe}
use Rattle.plans.specs.Lists.{listed, pair_at, rank_of}
use Rattle.plans.specs.Closing.{parent_rank, supplier_rank}

-- the path of a pair leads from state 0 over parents to the pair; these are its states behind state 0, the last n at
-- most
unfoldable pub path_within : Universe → List Pair → ℕ → Pair → List ℕ
path_within u l zero h = []
path_within u l (suc n) h =
    let before = path_within u l n (pair_at l (parent_rank u l h)) in cond (h.state == 0) [] (before ++ (h.state ∷ []))

-- the path of a listed pair; a parent has a lower rank, so there are no more states than pairs
abbrev pub path : Universe → List Pair → Pair → List ℕ
path u l h = path_within u l (length l) h

-- some pair on the path of h requires the port; state 0 requires none
abbrev pub path_requires : Universe → List Pair → Pair → ℕ → Bool
path_requires u l h p = list_any (λ q. u.requires h.kind q p) (path u l h)

-- the listed pair g is the supplier of a port that some pair on the path of h requires
unfoldable pub serves : Universe → List Pair → Pair → Pair → Bool
serves u l g h = any (λ p. path_requires u l h p && (supplier_rank u l p == rank_of l g)) u.ports

-- of the pairs hs, the last of the order l, those that are needed: each that is in the goal, or that serves a needed
-- one behind it; a supplier always has a lower rank
unfoldable pub needed_among : Universe → List Pair → List Pair → List Pair → List Pair
needed_among u l goal [] = []
needed_among u l goal (h ∷ hs) =
    let behind = needed_among u l goal hs in cond (listed goal h || list_any (serves u l h) behind) (h ∷ behind) behind

-- the needed pairs, by rank
abbrev pub needed : Universe → List Pair → List Pair → List Pair
needed u l goal = needed_among u l goal l
