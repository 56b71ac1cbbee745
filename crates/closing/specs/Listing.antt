-- What is kept beside a list of pairs while the closing order is built.
use Rattle.std.specs.Prelude.{◌≡◌, ℕ, Bool, not, ◌&&◌, List, Option, length, take, slice_index}
use Rattle.std.specs.List.{list_any}
use Rattle.model.specs.declared.pair.Pair.{Pair}
use Rattle.model.specs.Config.{pair}
use Rattle.model.specs.Search.{any, find_first}
use Rattle.model.specs.Universe.{Universe}
use Rattle.universe.specs.declared.tables.Tables.{Tables}
use Rattle.universe.specs.Sets.{has}
use Rattle.universe.specs.Tables.{universe_of}
use Rattle.plans.specs.Lists.{listed, some_if}
use Rattle.plans.specs.Closing.{addable, follows, provides}
use Rattle.closing.specs.Places.{Places}
use Rattle.closing.specs.declared.listing.Listing.{Listing}

-- some port is in the first set and not in the second
unfoldable pub exceeds : ℕ → ℕ → Bool
exceeds required provided = any (λ p. has 32 required p && not (has 32 provided p)) 32

-- the sets tell what the pairs of l provide, which they are, and to which they lead
pub record Sets (t : Tables) (l : List Pair) (provided : ℕ) (listed_states led_states : List ℕ) : Type 0 where
  pub marks : length listed_states ≡ 16
  pub leads_marks : length led_states ≡ 16
  pub provided_ports : (p : ℕ) → has 32 provided p ≡ list_any (provides (universe_of t) p) l
  pub listed_pairs : (k q : ℕ) → has 8 (slice_index listed_states k) q ≡ listed l (pair k q)
  pub led_pairs : (k q : ℕ) → has 8 (slice_index led_states k) q ≡ list_any (follows (universe_of t) (pair k q)) l

-- the set has the states of the type that are not listed, and that listed pairs have as successors
abbrev pub Waits : Universe → List Pair → ℕ → ℕ → Type 0
Waits u l k waiting = (q : ℕ) → has 8 waiting q ≡ (not (listed l (pair k q)) && list_any (follows u (pair k q)) l)

-- the lowest state of the type with which a pair can be added to those of l
abbrev pub next_of : Universe → List Pair → ℕ → Option Pair
next_of u l k = find_first (λ q. some_if (addable u l (pair k q)) (pair k q)) (u.states k)

-- the listing has listed the pairs of l
pub record Lists (t : Tables) (l : List Pair) (s : Listing) : Type 0 where
  pub places : Places l s.places s.len
  pub sets : Sets t l s.provided s.listed s.led

-- the pairs that are listed
abbrev pub pairs_of : Listing → List Pair
pairs_of s = take s.len s.places

-- the sets and places of the listing are those of its pairs
abbrev pub Tracks : Tables → Listing → Type 0
Tracks t s = Lists t (pairs_of s) s
