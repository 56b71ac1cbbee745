-- What the tables of a universe mean, and what every universe that the code holds keeps to.
use Rattle.std.specs.Prelude.{◌≡◌, ℕ, ◌<◌, [], ◌∷◌, length, replicate, slice_index_or}
use Rattle.universe.specs.declared.tables.State.{State}
use Rattle.universe.specs.declared.tables.Kind.{Kind}
use Rattle.universe.specs.declared.tables.Tables.{Tables}
use Rattle.universe.specs.Sets.{has}
use Rattle.model.specs.Universe.{Universe, Valid}

-- an entry behind the last state of a type
abbrev pub blank_state : State
blank_state = record { provided = 0; required = 0; successors = 0 }

-- what is read where there is no type
abbrev pub blank_kind : Kind
blank_kind = record { count = 0; states = [] }

-- a type behind the last
abbrev pub unused_kind : Kind
unused_kind = record { count = 0; states = replicate 8 blank_state }

-- the tables of the least universe: one type of one state, and no ports
abbrev pub tables_of_least : Tables
tables_of_least = record { types = 1; ports = 0; kinds = record { count = 1; states = replicate 8 blank_state } ∷ replicate 15 unused_kind }

-- the type t
abbrev pub kind_at : Tables → ℕ → Kind
kind_at u t = slice_index_or u.kinds t blank_kind

-- the entry of the state q of the type t
abbrev pub entry_at : Tables → ℕ → ℕ → State
entry_at u t q = slice_index_or (kind_at u t).states q blank_state

-- the universe that the tables hold; what is out of range has no entries
abbrev pub universe_of : Tables → Universe
universe_of u = record {
  types = u.types;
  ports = u.ports;
  states = λ t. (kind_at u t).count;
  provides = λ t q p. has 32 (entry_at u t q).provided p;
  requires = λ t q p. has 32 (entry_at u t q).required p;
  next = λ t q n. has 8 (entry_at u t q).successors n;
}

-- the tables are full arrays and hold a valid universe
pub record Sound (u : Tables) : Type 0 where
  pub kinds : length u.kinds ≡ 16
  pub states : (t : ℕ) → t < 16 → length (kind_at u t).states ≡ 8
  pub valid : Valid (universe_of u)
