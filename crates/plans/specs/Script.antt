-- The plan for a goal, and its script.
use Rattle.std.specs.Prelude.{List, length}
use Rattle.model.specs.declared.pair.Pair.{Pair}
use Rattle.model.specs.declared.order.Order.{Order}
use Rattle.model.specs.Config.{empty}
use Rattle.model.specs.Universe.{Universe}
use Rattle.plans.specs.Lists.{pair_at, rank_of}
use Rattle.plans.specs.Closing.{closing, supplier_rank}
use Rattle.plans.specs.Needs.{needed, path}
use Rattle.plans.specs.Plan.{Plan, script_of}

-- the plan for the pairs ns of the closing order l: one instance in each, numbered by rank
abbrev pub plan_for : Universe → List Pair → List Pair → Plan
plan_for u l ns = record {
  outset = empty;
  first = 0;
  count = length ns;
  kind = λ z. (pair_at ns z).kind;
  path = λ z. path u l (pair_at ns z);
  supplier = λ p. rank_of ns (pair_at l (supplier_rank u l p));
}

-- the pairs that the goal needs, by rank
abbrev pub needed_pairs : Universe → List Pair → List Pair
needed_pairs u goal = needed u (closing u) goal

-- the script for a goal
unfoldable pub script : Universe → List Pair → List Order
script u goal = script_of u (plan_for u (closing u) (needed_pairs u goal))
