-- Runs: lists of orders, each legal where it stands, that leave no gap after any order.
use Rattle.std.specs.Prelude.{List, [], ◌∷◌}
use Rattle.model.specs.declared.order.Order.{Order}
use Rattle.model.specs.Universe.{Universe}
use Rattle.model.specs.Config.{Config, empty}
use Rattle.model.specs.Gaps.{GapFree}
use Rattle.model.specs.Orders.{Legal, result_of}

-- the configuration that the orders lead to
unfoldable pub after : Config → List Order → Config
after c [] = c
after c (o ∷ os) = after (result_of o c) os

-- from c, each order is legal, and the configuration is gap-free after every order
unfoldable pub RunsFrom : Universe → Config → List Order → Type 0
RunsFrom u c [] = Unit {0}
RunsFrom u c (o ∷ os) = Legal u c o × GapFree u (result_of o c) × RunsFrom u (result_of o c) os

-- a run begins where nothing stands
abbrev pub Run : Universe → List Order → Type 0
Run u os = RunsFrom u empty os
