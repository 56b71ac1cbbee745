-- Goals: pairs that are wanted.
use Rattle.std.specs.Prelude.{◌≡◌, ℕ, List, All, Some}
use Rattle.model.specs.declared.pair.Pair.{Pair}
use Rattle.model.specs.declared.order.Order.{Order}
use Rattle.model.specs.Config.{Config, empty}
use Rattle.model.specs.Runs.{Run, after}
use Rattle.model.specs.Universe.{Universe}

-- some instance stands in the pair
abbrev pub Attained : Config → Pair → Type 0
Attained c h = (z : ℕ) × (c.inst z ≡ Some h)

-- a goal is met when some instance stands in each of its pairs; one instance meets equal lines
abbrev pub Met : List Pair → Config → Type 0
Met goal c = All (Attained c) goal

-- the orders are a run, and the goal is met at its end
abbrev pub Reaches : Universe → List Order → List Pair → Type 0
Reaches u os goal = Run u os × Met goal (after empty os)
