-- What an entry tells of the state under a number. Assumes nothing.
use Rattle.std.proofs.Common.{◌≡◌, Some, None, Option, refl}
use Rattle.model.specs.declared.pair.Pair.{Pair}
use Rattle.model.specs.Universe.{Universe}
use Rattle.universe.specs.declared.held.Universe.{Universe as Held}
use Rattle.universe.specs.declared.tables.State.{State}
use Rattle.universe.specs.Held.{universe_in}
use Rattle.universe.specs.Tables.{blank_state, entry_at}
use Rattle.rules.specs.Ports.{EntryOf}
use Rattle.rules.proofs.Masks.{has_none}

-- what does not stand does nothing with any port
pub idle_entry : (u : Universe) (o : Option Pair) → o ≡ None → EntryOf u o blank_state
idle_entry u o e = record { provides = λ p. rw e (has_none p); requires = λ p. rw e (has_none p) }

-- what stands does what the entry of its state tells
pub told_entry : (held : Held) (u : Universe) (o : Option Pair) (h : Pair) (e : State) → universe_in held ≡ u → o ≡ Some h →
    e ≡ entry_at held.tables h.kind h.state → EntryOf u o e
told_entry held u o h e same is was = rw (was, is, ← same) (record { provides = λ p. refl; requires = λ p. refl })
