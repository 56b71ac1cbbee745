-- The invariant of a universe is a proposition, so that proofs can use it.
use mathlib.Core.Logic.{∥∥₁_elim}
use denote.Struct.Props.{props}
use Rattle.model.specs.Universe.{Universe, Valid}
use Rattle.universe.specs.declared.tables.Tables.{Tables}
use Rattle.universe.specs.Tables.{Sound}

pub valid_prop : (u : Universe) → IsProp (Valid u)
valid_prop u = hlevel props

pub sound_prop : (u : Tables) → IsProp (Sound u)
sound_prop u = hlevel (props, valid_prop)

-- the facts of a universe that the code holds
pub sound : (u : Tables) → ∥ Sound u ∥₁ → Sound u
sound u t = ∥∥₁_elim t (sound_prop u) (λ s. s)
