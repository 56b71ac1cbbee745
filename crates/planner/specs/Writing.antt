-- Lines written into a caller's list.
use Rattle.std.specs.Prelude.{◌≡◌, ℕ, ◌+◌, ◌-◌, ◌^◌, ◌<◌, ◌≤◌, List, [], ◌∷◌, length, min, set, slice_index, true}
use Rattle.model.specs.declared.binding.Binding.{Binding}
use Rattle.model.specs.declared.order.Order.{Order}
use Rattle.model.specs.declared.order.Order.TheVariants.{Bind, Unbind}
use Rattle.model.specs.declared.pair.Pair.{Pair}
use Rattle.universe.specs.Sets.{has}
use Rattle.lines.specs.Line.{fields_of_order, line_of_fields}
use Rattle.plans.specs.Lists.{listed, lists_below}
use Rattle.plans.specs.Plan.{Plan, binding, order_if}
use Rattle.plans.specs.Script.{plan_for}
use Rattle.closing.specs.declared.order.ClosingOrder.{ClosingOrder}
use Rattle.closing.specs.Order.{pairs_in_order, universe_in_order}
use Rattle.planner.specs.declared.writing.Link.{Link}
use Rattle.planner.specs.declared.writing.Link.TheVariants.{Made, Ended}

-- the line of an order that has one
abbrev pub line_of : Order → ℕ
line_of o = line_of_fields (fields_of_order o)

-- one place more, but at most 2 ^ 64 - 1
abbrev pub behind : ℕ → ℕ
behind k = min (k + 1) (2 ^ 64 - 1)

-- xs with the lines of the orders from the place k on, as far as it has places
unfoldable pub written_at : List ℕ → ℕ → List Order → List ℕ
written_at xs k [] = xs
written_at xs k (o ∷ os) = written_at (set xs k (line_of o)) (behind k) os

-- the place behind them
unfoldable pub place_behind : ℕ → List Order → ℕ
place_behind k [] = k
place_behind k (o ∷ os) = place_behind (behind k) os

-- the list xs with the lines of the orders from the place j on is zs, and the next place is m
pub record Wrote (xs : List ℕ) (j : ℕ) (os : List Order) (zs : List ℕ) (m : ℕ) : Type 0 where
  pub place : m ≡ place_behind j os
  pub lines : zs ≡ written_at xs j os

-- the order for a binding
abbrev pub linked : Link → Binding → Order
linked Made = Bind
linked Ended = Unbind

-- in port order, for each port below n in the set: the order for the binding to its supplier
abbrev pub links : ℕ → Link → (ℕ → ℕ) → ℕ → ℕ → List Order
links n link supplier z ports =
    lists_below (λ p. order_if (has 32 ports p) (linked link (binding p (supplier p) z))) n

-- the plan for the pairs ns of the closing order
abbrev pub plan_on : ClosingOrder → List Pair → Plan
plan_on o ns = plan_for (universe_in_order o) (pairs_in_order o) ns

-- each of the pairs ns is listed in l
abbrev pub AllListed : List Pair → List Pair → Type 0
AllListed l ns = (h : Pair) → listed ns h ≡ true → listed l h ≡ true

-- the pairs ns are listed, there are no more of them than pairs can be, and the suppliers, by port, are those of the
-- plan for them
pub record PlanFits (o : ClosingOrder) (ns : List Pair) (suppliers : List ℕ) : Type 0 where
  pub few : length ns ≤ 128
  pub sub : AllListed (pairs_in_order o) ns
  pub supplied : (p : ℕ) → p < 32 → slice_index suppliers p ≡ (plan_on o ns).supplier p
