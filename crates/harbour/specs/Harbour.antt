-- The harbour universe: a lock service, a roster that needs the lock, and a dispatcher that needs first the
-- lock and then the roster.
use Rattle.std.specs.Prelude.{ℕ, suc, Bool, cond, ◌&&◌, ◌||◌, List, [], ◌∷◌, replicate, ◌==◌, nat_lt}
use Rattle.model.specs.declared.order.Order.{Order}
use Rattle.model.specs.declared.order.Order.TheVariants.{Create, Bind, Change, Unbind}
use Rattle.model.specs.Universe.{Universe}
use Rattle.plans.specs.Plan.{binding}
use Rattle.universe.specs.declared.tables.State.{State}
use Rattle.universe.specs.declared.tables.Tables.{Tables}
use Rattle.universe.specs.Tables.{blank_state, unused_kind}

-- the three numbers are these
abbrev pub are : ℕ → ℕ → ℕ → ℕ → ℕ → ℕ → Bool
are a b c t q p = t == a && q == b && p == c

-- types 0 and 1 have two states, type 2 has three
abbrev pub counts : ℕ → ℕ
counts t = cond (nat_lt t 2) 2 (cond (t == 2) 3 0)

-- Port 0 is the lock and port 1 the roster. State 1 of type 0 provides the lock; state 1 of type 1 provides the
-- roster and requires the lock; state 1 of type 2 requires the lock and state 2 the roster. Each state has the
-- next as successor.
abbrev pub harbour : Universe
harbour = record {
  types = 3;
  ports = 2;
  states = counts;
  provides = λ t q p. are 0 1 0 t q p || are 1 1 1 t q p;
  requires = λ t q p. are 1 1 0 t q p || are 2 1 0 t q p || are 2 2 1 t q p;
  next = λ t q n. (n == suc q) && nat_lt n (counts t);
}

-- the goal of a dispatcher that serves: type 2 in state 2
abbrev pub harbour_goal : List ℕ
harbour_goal = 0x24 ∷ []

-- the orders of its script: lock, roster and dispatcher are built one after the other, and the dispatcher lets the lock go
-- once it serves
abbrev pub serving_orders : List Order
serving_orders =
    Create 0 0 ∷ Change 0 1
    ∷ Create 1 1 ∷ Bind (binding 0 0 1) ∷ Change 1 1
    ∷ Create 2 2 ∷ Bind (binding 0 0 2) ∷ Change 2 1 ∷ Bind (binding 1 1 2) ∷ Change 2 2 ∷ Unbind (binding 0 0 2)
    ∷ []

-- the file of the harbour
abbrev pub harbour_file : List ℕ
harbour_file =
    0x18 ∷ 0x40
    ∷ 0x20
    ∷ 0 ∷ 0 ∷ 0 ∷ 0 ∷ 0 ∷ 0 ∷ 0 ∷ 0 ∷ 0x40
    ∷ 0x80 ∷ 0 ∷ 0 ∷ 0 ∷ 0 ∷ 0 ∷ 0 ∷ 0 ∷ 0
    ∷ 0x20
    ∷ 0 ∷ 0 ∷ 0 ∷ 0 ∷ 0 ∷ 0 ∷ 0 ∷ 0 ∷ 0x40
    ∷ 0x40 ∷ 0 ∷ 0 ∷ 0 ∷ 0x80 ∷ 0 ∷ 0 ∷ 0 ∷ 0
    ∷ 0x30
    ∷ 0 ∷ 0 ∷ 0 ∷ 0 ∷ 0 ∷ 0 ∷ 0 ∷ 0 ∷ 0x40
    ∷ 0 ∷ 0 ∷ 0 ∷ 0 ∷ 0x80 ∷ 0 ∷ 0 ∷ 0 ∷ 0x20
    ∷ 0 ∷ 0 ∷ 0 ∷ 0 ∷ 0x40 ∷ 0 ∷ 0 ∷ 0 ∷ 0
    ∷ []

-- a state that provides, requires and may change to these packed sets
abbrev pub entry : ℕ → ℕ → ℕ → State
entry p r n = record { provided = p; required = r; successors = n }

-- the tables that its file packs: the lock, the roster and the dispatcher, and blanks behind them
abbrev pub harbour_tables : Tables
harbour_tables = record {
  types = 3;
  ports = 2;
  kinds =
      record { count = 2; states = entry 0 0 0x40 ∷ entry 0x80000000 0 0 ∷ replicate 6 blank_state }
      ∷ record { count = 2; states = entry 0 0 0x40 ∷ entry 0x40000000 0x80000000 0 ∷ replicate 6 blank_state }
      ∷ record { count = 3; states = entry 0 0 0x40 ∷ entry 0 0x80000000 0x20 ∷ entry 0 0x40000000 0 ∷ replicate 5 blank_state }
      ∷ replicate 13 unused_kind;
}
