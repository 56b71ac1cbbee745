-- Configurations: the instances that stand and the bindings between them.
use Rattle.std.specs.Prelude.{◌≡◌, ℕ, Bool, true, false, ◌≢◌, Some, None, Option}
use Rattle.model.specs.declared.pair.Pair.{Pair}
use Rattle.model.specs.Search.{any}
use Rattle.model.specs.Universe.{Universe, IsPair}

pub record Config : Type 0 where
  -- the type and state of the instance z, which may be nothing; any whole number may be an instance's
  pub inst : ℕ → Option Pair
  -- the binding on the port p from the provider x to the requirer y stands
  pub bound : ℕ → ℕ → ℕ → Bool

-- nothing stands
abbrev pub empty : Config
empty = record { inst = λ z. None; bound = λ p x y. false }

abbrev pub pair : ℕ → ℕ → Pair
pair t q = record { kind = t; state = q }

-- something stands under a number
abbrev pub stands : Option Pair → Bool
stands None = false
stands (Some h) = true

-- what stands under a number is there and passes
abbrev pub passes : Option Pair → (Pair → Bool) → Bool
passes None f = false
passes (Some h) f = f h

-- what stands under a number, in the state q
abbrev pub moved : Option Pair → ℕ → Option Pair
moved None q = None
moved (Some h) q = Some (pair h.kind q)

-- its state provides the port p
abbrev pub provided : Universe → ℕ → Option Pair → Bool
provided u p o = passes o (λ h. u.provides h.kind h.state p)

-- its state requires the port p
abbrev pub required : Universe → ℕ → Option Pair → Bool
required u p o = passes o (λ h. u.requires h.kind h.state p)

-- some state of its type provides the port p
abbrev pub ever_provides : Universe → ℕ → Option Pair → Bool
ever_provides u p o = passes o (λ h. any (λ q. u.provides h.kind q p) (u.states h.kind))

-- some state of its type requires the port p
abbrev pub ever_requires : Universe → ℕ → Option Pair → Bool
ever_requires u p o = passes o (λ h. any (λ q. u.requires h.kind q p) (u.states h.kind))

-- every instance is in a pair of the universe; the ends of every binding stand and differ,
-- and of its port, some state of the provider's type provides it and some state of the requirer's requires it
pub record WellFormed (u : Universe) (c : Config) : Type 0 where
  pub pairs : (z : ℕ) (h : Pair) → c.inst z ≡ Some h → IsPair u h.kind h.state
  pub apart : (p x y : ℕ) → c.bound p x y ≡ true → x ≢ y
  pub providers : (p x y : ℕ) → c.bound p x y ≡ true → ever_provides u p (c.inst x) ≡ true
  pub requirers : (p x y : ℕ) → c.bound p x y ≡ true → ever_requires u p (c.inst y) ≡ true
