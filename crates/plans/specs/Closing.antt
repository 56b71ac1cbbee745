-- The closing order: the pairs that a run can bring about, each behind those that it needs before it.
use Rattle.std.specs.Prelude.{ℕ, zero, suc, Bool, not, ◌&&◌, List, [], ◌∷◌, ◌++◌, Some, None, Option, ◌==◌}
use Rattle.std.specs.List.{list_any, position_or_len}
use Rattle.model.specs.declared.pair.Pair.{Pair}
use Rattle.model.specs.Config.{pair}
use Rattle.model.specs.Search.{any, find_first, sum_below}
use Rattle.model.specs.Universe.{Universe}
use Rattle.plans.specs.Lists.{listed, lists_below, some_if}

-- the pair h follows the pair g: g has it, of the same type, as a successor
abbrev pub follows : Universe → Pair → Pair → Bool
follows u h g = g.kind == h.kind && u.next g.kind g.state h.state

-- the pair g provides the port
abbrev pub provides : Universe → ℕ → Pair → Bool
provides u p g = u.provides g.kind g.state p

-- the pair requires a port that no listed pair provides
unfoldable pub lacks : Universe → List Pair → Pair → Bool
lacks u l h = any (λ p. u.requires h.kind h.state p && not (list_any (provides u p) l)) u.ports

-- the pair can be added: it is not listed, a listed pair of its type has it as a successor, and it lacks no port
unfoldable pub addable : Universe → List Pair → Pair → Bool
addable u l h = not (listed l h) && (list_any (follows u h) l && not (lacks u l h))

-- the lowest pair that can be added, by type, then state
unfoldable pub next_pair : Universe → List Pair → Option Pair
next_pair u l = find_first (λ t. find_first (λ q. some_if (addable u l (pair t q)) (pair t q)) (u.states t)) u.types

-- the pairs with state 0, by type
abbrev pub initial_pairs : Universe → List Pair
initial_pairs u = lists_below (λ t. pair t 0 ∷ []) u.types

-- with the pair behind it the list is grown further; without one it stays
abbrev pub grown_with : Option Pair → List Pair → (List Pair → List Pair) → List Pair
grown_with None l further = l
grown_with (Some h) l further = further (l ++ (h ∷ []))

-- the next pair is added until there is none, n times at most
unfoldable pub grown : Universe → ℕ → List Pair → List Pair
grown u zero l = l
grown u (suc n) l = grown_with (next_pair u l) l (grown u n)

-- how many pairs there are
abbrev pub pair_count : Universe → ℕ
pair_count u = sum_below u.states u.types

-- the closing order; each turn but the last adds a pair, so there are no more turns than pairs
unfoldable pub closing : Universe → List Pair
closing u = grown u (pair_count u) (initial_pairs u)

-- the rank of the parent of an added pair: the lowest that has it as a successor; the number of listed pairs where none has
abbrev pub parent_rank : Universe → List Pair → Pair → ℕ
parent_rank u l h = position_or_len (follows u h) l

-- the rank of the supplier of a port: the lowest that provides it; the number of listed pairs where none does
abbrev pub supplier_rank : Universe → List Pair → ℕ → ℕ
supplier_rank u l p = position_or_len (provides u p) l
