-- What a kept closing order means.
use Rattle.std.specs.Prelude.{List}
use Rattle.model.specs.declared.pair.Pair.{Pair}
use Rattle.model.specs.Universe.{Universe}
use Rattle.universe.specs.Held.{universe_in}
use Rattle.plans.specs.Closing.{closing}
use Rattle.closing.specs.declared.order.ClosingOrder.{ClosingOrder}

-- its universe
abbrev pub universe_in_order : ClosingOrder → Universe
universe_in_order o = universe_in o.universe

-- its pairs: the closing order of its universe
abbrev pub pairs_in_order : ClosingOrder → List Pair
pairs_in_order o = closing (universe_in_order o)
