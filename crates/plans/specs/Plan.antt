-- Plans, and the script of a plan.
use Rattle.std.specs.Prelude.{◌≡◌, ℕ, ◌+◌, ◌<◌, ◌≤◌, Bool, true, cond, not, ◌&&◌, List, [], ◌∷◌, ◌++◌, Some, None, Option, nat_lt}
use Rattle.model.specs.declared.binding.Binding.{Binding}
use Rattle.model.specs.declared.pair.Pair.{Pair}
use Rattle.model.specs.declared.order.Order.{Order}
use Rattle.model.specs.declared.order.Order.TheVariants.{Create, Bind, Change, Unbind}
use Rattle.model.specs.Config.{Config, pair, provided}
use Rattle.model.specs.Gaps.{GapFree}
use Rattle.model.specs.Universe.{Universe}
use Rattle.plans.specs.Lists.{lists_below}

-- what is to be built
pub record Plan : Type 0 where
  -- what stands at the outset
  pub outset : Config
  -- the number of the first instance, and how many there are, numbered on from it
  pub first : ℕ
  pub count : ℕ
  -- of an instance, by its number: its type, and the states that it walks over, behind state 0
  pub kind : ℕ → ℕ
  pub path : ℕ → List ℕ
  -- the number of the instance that supplies a port
  pub supplier : ℕ → ℕ

-- a binding of its port, its provider and its requirer
abbrev pub binding : ℕ → ℕ → ℕ → Binding
binding p x y = record { port = p; provider = x; requirer = y }

-- the order, if the test holds
abbrev pub order_if : Bool → Order → List Order
order_if b o = cond b (o ∷ []) []

-- in port order, for the instance z and every port that the state r requires and the state q does not: the order made
-- of the binding to the port's supplier
unfoldable pub port_orders : (Binding → Order) → Universe → Plan → ℕ → ℕ → ℕ → List Order
port_orders make u s z q r =
    lists_below (λ p. order_if (u.requires (s.kind z) r p && not (u.requires (s.kind z) q p)) (make (binding p (s.supplier p) z))) u.ports

-- from the state q to the state r: every port newly required is bound, the state is changed, and every port no longer
-- required is unbound
unfoldable pub step : Universe → Plan → ℕ → ℕ → ℕ → List Order
step u s z q r = port_orders Bind u s z q r ++ (Change z r ∷ port_orders Unbind u s z r q)

-- step by step from the state q over the states rs
unfoldable pub walk : Universe → Plan → ℕ → ℕ → List ℕ → List Order
walk u s z q [] = []
walk u s z q (r ∷ rs) = step u s z q r ++ walk u s z r rs

-- the instance z is created, and walks its path
unfoldable pub build : Universe → Plan → ℕ → List Order
build u s z = Create z (s.kind z) ∷ walk u s z 0 (s.path z)

-- instance by instance
unfoldable pub script_of : Universe → Plan → List Order
script_of u s = lists_below (λ i. build u s (s.first + i)) s.count

-- where the walk from the state q over the states rs ends
unfoldable pub last_state : ℕ → List ℕ → ℕ
last_state q [] = q
last_state q (r ∷ rs) = last_state r rs

-- the pair in which the instance z ends
abbrev pub final : Plan → ℕ → Pair
final s z = pair (s.kind z) (last_state 0 (s.path z))

-- what stands under a number once the instances below n are built
abbrev pub built : Plan → ℕ → ℕ → Option Pair
built s n z = cond (nat_lt z s.first) (s.outset.inst z) (cond (nat_lt z n) (Some (final s z)) None)

-- the port is supplied to the instance z: by an instance with a lower number, which provides it once it is built, or
-- provides it at the outset
pub record Supplied (u : Universe) (s : Plan) (z p : ℕ) : Type 0 where
  pub before : s.supplier p < z
  pub provides : provided u p (built s z (s.supplier p)) ≡ true

-- from the state q, each state of the path is a successor of the one before, and the ports that it requires are
-- supplied
unfoldable pub Passable : Universe → Plan → ℕ → ℕ → List ℕ → Type 0
Passable u s z q [] = Unit {0}
Passable u s z q (r ∷ rs) =
    (u.next (s.kind z) q r ≡ true) × ((p : ℕ) → u.requires (s.kind z) r p ≡ true → Supplied u s z p) × Passable u s z r rs

-- the facts that make a plan work
pub record Works (u : Universe) (s : Plan) : Type 0 where
  -- what stands at the outset is gap-free; the numbers of its instances, and of its bindings' requirers, are below the
  -- first
  pub sound : GapFree u s.outset
  pub inst : (z : ℕ) → s.first ≤ z → s.outset.inst z ≡ None
  pub bound : (p x y : ℕ) → s.outset.bound p x y ≡ true → y < s.first
  -- each instance is of a type of the universe, and can walk its path
  pub kind : (z : ℕ) → s.first ≤ z → z < s.first + s.count → s.kind z < u.types
  pub path : (z : ℕ) → s.first ≤ z → z < s.first + s.count → Passable u s z 0 (s.path z)
