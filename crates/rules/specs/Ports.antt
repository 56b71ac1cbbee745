-- What states do with a port.
use Rattle.std.specs.Prelude.{◌≡◌, ℕ, Bool, Option}
use Rattle.model.specs.declared.pair.Pair.{Pair}
use Rattle.model.specs.Search.{any}
use Rattle.model.specs.Universe.{Universe}
use Rattle.model.specs.Config.{passes, provided, required}
use Rattle.universe.specs.declared.tables.State.{State}
use Rattle.universe.specs.Sets.{has}
use Rattle.rules.specs.declared.ports.Role.{Role}
use Rattle.rules.specs.declared.ports.Role.TheVariants.{Provider, Requirer}

-- the state q of the type t provides the port, or requires it
abbrev pub holds_port : Universe → Role → ℕ → ℕ → ℕ → Bool
holds_port u Provider = u.provides
holds_port u Requirer = u.requires

-- what stands under a number is in a state that provides the port, or requires it
abbrev pub now_has : Universe → Role → ℕ → Option Pair → Bool
now_has u role p o = passes o (λ h. holds_port u role h.kind h.state p)

-- the entry tells what the state under a number provides and requires
pub record EntryOf (u : Universe) (o : Option Pair) (e : State) : Type 0 where
  pub provides : (p : ℕ) → has 32 e.provided p ≡ provided u p o
  pub requires : (p : ℕ) → has 32 e.required p ≡ required u p o

-- some state of its type provides the port, or requires it
abbrev pub ever_has : Universe → Role → ℕ → Option Pair → Bool
ever_has u role p o = passes o (λ h. any (λ q. holds_port u role h.kind q p) (u.states h.kind))
