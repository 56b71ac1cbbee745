-- The universe that a value of the code holds.
use Rattle.model.specs.Universe.{Universe}
use Rattle.universe.specs.declared.held.Universe.{Universe as Held}
use Rattle.universe.specs.Tables.{universe_of}

-- the universe of its tables
abbrev pub universe_in : Held → Universe
universe_in h = universe_of h.tables
