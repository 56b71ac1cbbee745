-- The kept closing order.
use Rattle.std.specs.Prelude.{ℕ, List}
use Rattle.model.specs.declared.pair.Pair.{Pair}
use Rattle.universe.specs.declared.tables.Tables.{Tables}
use Rattle.universe.specs.Tables.{universe_of}
use Rattle.plans.specs.Closing.{closing}
use Rattle.closing.specs.declared.ranks.Ranks.{Ranks}
use Rattle.closing.specs.Places.{Places}
use Rattle.closing.specs.Ranks.{Tells}

-- the first places hold the closing order, and the ranks are those of its suppliers and parents
pub record Kept (t : Tables) (places : List Pair) (len : ℕ) (ranks : Ranks) : Type 0 where
  pub order : Places (closing (universe_of t)) places len
  pub tells : Tells (universe_of t) (closing (universe_of t)) 0 ranks
