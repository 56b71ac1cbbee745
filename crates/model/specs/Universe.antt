-- Universes: component types with their states, and what each state provides, requires and leads to.
use Rattle.std.specs.Prelude.{◌≡◌, ℕ, ◌<◌, ◌≤◌, Bool, true, false, ◌≢◌}

-- types, ports and each type's states are numbered from 0
pub record Universe : Type 0 where
  pub types : ℕ
  pub ports : ℕ
  -- how many states the type t has
  pub states : ℕ → ℕ
  -- the state q of the type t provides the port p
  pub provides : ℕ → ℕ → ℕ → Bool
  -- the state q of the type t requires the port p
  pub requires : ℕ → ℕ → ℕ → Bool
  -- the state n is a successor of the state q of the type t
  pub next : ℕ → ℕ → ℕ → Bool

-- the type t with its state q is a pair of the universe
abbrev pub IsPair : Universe → ℕ → ℕ → Type 0
IsPair u t q = (t < u.types) × (q < u.states t)

-- what every universe keeps to
pub record Valid (u : Universe) : Type 0 where
  -- there are 1 to 16 types, 0 to 32 ports, and 1 to 8 states of each type
  pub types : (1 ≤ u.types) × (u.types ≤ 16)
  pub ports : u.ports ≤ 32
  pub states : (t : ℕ) → t < u.types → (1 ≤ u.states t) × (u.states t ≤ 8)
  -- only pairs provide and require, and only ports of the universe
  pub provides : (t q p : ℕ) → u.provides t q p ≡ true → IsPair u t q × (p < u.ports)
  pub requires : (t q p : ℕ) → u.requires t q p ≡ true → IsPair u t q × (p < u.ports)
  -- a successor is another state of the same type
  pub next : (t q n : ℕ) → u.next t q n ≡ true → IsPair u t q × (n < u.states t) × (n ≢ q)
  -- state 0 requires nothing
  pub initial : (t p : ℕ) → u.requires t 0 p ≡ false
  -- what is no type has no states
  pub beyond : (t : ℕ) → u.types ≤ t → u.states t ≡ 0
