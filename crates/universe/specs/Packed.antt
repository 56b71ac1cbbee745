-- The packed form of a universe, from the universe's own entries.
use Rattle.std.specs.Prelude.{◌≡◌, ℕ, zero, suc, ◌+◌, ◌*◌, ◌/◌, ◌%◌, ◌^◌, List, [], ◌∷◌, ◌++◌, Ok, Err, ◌≢◌}
use Rattle.model.specs.Universe.{Universe, Valid}
use Rattle.universe.specs.declared.tables.State.{State}
use Rattle.universe.specs.declared.tables.Tables.{Tables}
use Rattle.universe.specs.Sets.{field}
use Rattle.universe.specs.Tables.{universe_of}
use Rattle.universe.specs.Reading.{Read}

-- a number of 32 bits as four bytes, the most significant first
abbrev pub word_form : ℕ → List ℕ
word_form m = m / 2 ^ 24 ∷ (m / 2 ^ 16 % 2 ^ 8 ∷ (m / 2 ^ 8 % 2 ^ 8 ∷ (m % 2 ^ 8 ∷ [])))

-- 32 bits provided, 32 required, 8 successors
abbrev pub state_form : State → List ℕ
state_form s = word_form s.provided ++ (word_form s.required ++ (s.successors ∷ []))

-- the sets of the state q of the type t, packed
abbrev pub entry_of : Universe → ℕ → ℕ → State
entry_of u t q = record { provided = field 32 (u.provides t q); required = field 32 (u.requires t q); successors = field 8 (u.next t q) }

-- n forms in a row, of the numbers from q on
unfoldable pub rows : (ℕ → List ℕ) → ℕ → ℕ → List ℕ
rows form q zero = []
rows form q (suc n) = form q ++ rows form (suc q) n

-- state count 4 bits, four zero bits, then the states
abbrev pub kind_form : Universe → ℕ → List ℕ
kind_form u t = u.states t * 2 ^ 4 ∷ rows (λ q. state_form (entry_of u t q)) 0 (u.states t)

-- types 5 bits, ports 6, five zero bits
abbrev pub header_bits : ℕ → ℕ → ℕ
header_bits types ports = types * 2 ^ 11 + ports * 2 ^ 5

-- the header, then the types
abbrev pub packed_form : Universe → List ℕ
packed_form u = header_bits u.types u.ports / 2 ^ 8 ∷ (header_bits u.types u.ports % 2 ^ 8 ∷ rows (kind_form u) 0 u.types)

-- the tables hold a valid universe, and the bytes are the packed form of that universe and of no other
pub record FormOf (bs : List ℕ) (held : Tables) : Type 0 where
  pub valid : Valid (universe_of held)
  pub form : bs ≡ packed_form (universe_of held)
  pub only : (u : Universe) → Valid u → bs ≡ packed_form u → universe_of held ≡ u

-- the bytes are the packed form of no universe
abbrev pub FormOfNone : List ℕ → Type 0
FormOfNone bs = (u : Universe) → Valid u → bs ≢ packed_form u

-- a file is accepted exactly if it is the packed form of a universe, and the place then holds that universe
abbrev pub Packs : List ℕ → Read (Unit {0}) → Tables → Type 0
Packs bs (Ok x) held = FormOf bs held
Packs bs (Err e) held = FormOfNone bs
