-- What the planner's arrays hold.
use Rattle.std.specs.Prelude.{◌≡◌, ℕ, ◌≤◌, Bool, ◌&&◌, ◌||◌, ◌==◌, List, drop, length}
use Rattle.model.specs.declared.pair.Pair.{Pair}
use Rattle.model.specs.Search.{any}
use Rattle.model.specs.Universe.{Universe}
use Rattle.universe.specs.Sets.{has}
use Rattle.plans.specs.Lists.{listed, pair_at}
use Rattle.plans.specs.Closing.{supplier_rank}
use Rattle.planner.specs.declared.needs.Needed.{Needed}
use Rattle.planner.specs.declared.path.Path.{Path}

-- the states of a path
abbrev pub states_of_path : Path → List ℕ
states_of_path p = drop p.from p.states

-- a full array, and a place in it or at its end
abbrev pub PathFits : Path → Type 0
PathFits p = (length p.states ≡ 8) × (p.from ≤ 8)

-- the needed pairs
abbrev pub pairs_of_needed : Needed → List Pair
pairs_of_needed n = drop n.from n.pairs

-- a full array, and a place in it or at its end
abbrev pub NeededFits : Needed → Type 0
NeededFits n = (length n.pairs ≡ 128) × (n.from ≤ 128)

-- the pair of the rank is the supplier of one of the ports, a packed set
abbrev pub supplies : Universe → List Pair → ℕ → ℕ → Bool
supplies u l ports rank = any (λ p. has 32 ports p && (supplier_rank u l p == rank)) u.ports

-- the pair of the rank is in the goal, or the supplier of one of the ports
abbrev pub is_needed : Universe → List Pair → List Pair → ℕ → ℕ → Bool
is_needed u l goal ports rank = listed goal (pair_at l rank) || supplies u l ports rank
