-- Worked cases of planning.
use Rattle.std.specs.Prelude.{◌≡◌, cond, [], ◌∷◌, Ok, Err, ◌==◌}
use Rattle.model.specs.declared.order.Order.TheVariants.{Create}
use Rattle.model.specs.Universe.{Universe}
use Rattle.planner.specs.declared.refusal.PlanRefusal.TheVariants.{OutOfReach}
use Rattle.planner.specs.Planning.{planned}
use Rattle.harbour.specs.Harbour.{are, harbour, harbour_goal, serving_orders}

-- one type, whose state 1 follows state 0 and provides and requires port 0
abbrev pub lone : Universe
lone = record {
  types = 1;
  ports = 1;
  states = λ t. cond (t == 0) 2 0;
  provides = λ t q p. are 0 1 0 t q p;
  requires = λ t q p. are 0 1 0 t q p;
  next = λ t q n. are 0 0 1 t q n;
}

pub record PlanCases : Type 0 where
  -- the serving dispatcher
  pub serving : planned harbour harbour_goal ≡ Ok serving_orders
  -- a state that alone provides what it requires is out of reach
  pub alone : planned lone (0x02 ∷ []) ≡ Err OutOfReach
  pub initial : planned lone (0x00 ∷ []) ≡ Ok (Create 0 0 ∷ [])
