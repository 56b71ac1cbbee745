-- How a universe file is read, group by group: the first group with an offence refuses it,
-- with the lowest number that applies there.
use Rattle.std.specs.Prelude.{◌≡◌, ◌≤◌, ℕ, zero, suc, ◌+◌, ◌-◌, ◌*◌, ◌/◌, ◌%◌, ◌^◌, Bool, cond, not, ◌&&◌, ◌||◌, List, [], ◌∷◌, ◌++◌, length, drop, replicate, Ok, Err, Result, ◌==◌, nat_lt, slice_index}
use Rattle.std.specs.Borrow.{Bor}
use Rattle.universe.specs.declared.refusal.UniverseRefusal.{UniverseRefusal}
use Rattle.universe.specs.declared.refusal.UniverseRefusal.TheVariants.{Length, Count, ZeroBit, Port, Successor, InitialState}
use Rattle.universe.specs.declared.tables.State.{State}
use Rattle.universe.specs.declared.tables.Kind.{Kind}
use Rattle.universe.specs.declared.tables.Tables.{Tables}
use Rattle.universe.specs.declared.groups.Header.{Header}
use Rattle.universe.specs.Sets.{has, has_from}
use Rattle.universe.specs.Tables.{blank_state, unused_kind}

-- what a reading gives: a value, or why it is refused
abbrev pub Read : Type 0 → Type 0
Read X = Result X UniverseRefusal

-- refused with e if the test holds, else r
abbrev pub refused_if : {X : Type 0} → Bool → UniverseRefusal → Read X → Read X
refused_if b e r = cond b (Err e) r

-- what was read, handed on; a refusal ends the reading
abbrev pub and_then : {X Y : Type 0} → Read X → (X → Read Y) → Read Y
and_then (Ok x) f = f x
and_then (Err e) f = Err e

-- the call answers as the reading does, and beside the item gives the bytes behind it
abbrev pub Splits : {X : Type 0} → (X → ℕ) → Read (X × Bor (List ℕ)) → Read X → List ℕ → Type 0
Splits size (Ok p) r bs = (r ≡ Ok p.0) × (size p.0 ≤ length bs) × (p.1.now ≡ drop (size p.0) bs)
Splits size (Err e) r bs = r ≡ Err e

-- the list, made n long with d
abbrev pub filled : {X : Type 0} → ℕ → X → List X → List X
filled n d xs = xs ++ replicate (n - length xs) d

-- the number is below the lowest or above the highest
abbrev pub outside : ℕ → ℕ → ℕ → Bool
outside low high n = nat_lt n low || nat_lt high n

-- the header's 16 bits: types 5, ports 6, five zero bits
abbrev pub header_of_word : ℕ → Read Header
header_of_word bits =
    refused_if (outside 1 16 (bits / 2 ^ 11) || outside 0 32 (bits / 2 ^ 5 % 2 ^ 6)) Count
    (refused_if (not (bits % 2 ^ 5 == 0)) ZeroBit
    (Ok (record { types = bits / 2 ^ 11; ports = bits / 2 ^ 5 % 2 ^ 6 })))

-- the state count's 8 bits: count 4, four zero bits
abbrev pub count_of : ℕ → Read ℕ
count_of bits =
    refused_if (outside 1 8 (bits / 2 ^ 4)) Count
    (refused_if (not (bits % 2 ^ 4 == 0)) ZeroBit
    (Ok (bits / 2 ^ 4)))

-- the entry s of the state q, among so many ports, of a type with so many states
abbrev pub state_of : ℕ → ℕ → ℕ → State → Read State
state_of ports count q s =
    refused_if (has_from 32 s.provided ports || has_from 32 s.required ports) Port
    (refused_if (has 8 s.successors q || has_from 8 s.successors count) Successor
    (refused_if (q == 0 && not (s.required == 0)) InitialState
    (Ok s)))

-- four bytes as a number, the most significant first
abbrev pub word_at : List ℕ → ℕ → ℕ
word_at bs i = slice_index bs i * 16777216 + slice_index bs (i + 1) * 65536 + slice_index bs (i + 2) * 256 + slice_index bs (i + 3)

-- the header at the front of the bytes
unfoldable pub header_read : List ℕ → Read Header
header_read bs = refused_if (nat_lt (length bs) 2) Length (header_of_word (slice_index bs 0 * 256 + slice_index bs 1))

-- the state count at the front of the bytes
unfoldable pub count_read : List ℕ → Read ℕ
count_read bs = refused_if (nat_lt (length bs) 1) Length (count_of (slice_index bs 0))

-- the entry of the state q at the front of the bytes: 32 bits provided, 32 required, 8 successors
unfoldable pub state_read : ℕ → ℕ → ℕ → List ℕ → Read State
state_read ports count q bs =
    refused_if (nat_lt (length bs) 9) Length
    (state_of ports count q (record { provided = word_at bs 0; required = word_at bs 4; successors = slice_index bs 8 }))

-- n items in a row, numbered from q on, each read from the front of what the one before leaves
unfoldable pub many : {X : Type 0} → (ℕ → List ℕ → Read X) → (X → ℕ) → ℕ → ℕ → List ℕ → Read (List X)
many one size q zero bs = Ok []
many one size q (suc n) bs =
    and_then (one q bs) (λ x. and_then (many one size (suc q) n (drop (size x) bs)) (λ xs. Ok (x ∷ xs)))

-- the bytes of a header
abbrev pub header_size : Header → ℕ
header_size h = 2

-- the bytes of a state count
abbrev pub count_size : ℕ → ℕ
count_size n = 1

-- the bytes of a state's entry
abbrev pub state_size : State → ℕ
state_size s = 9

-- the type with these states
abbrev pub kind_of : List State → Kind
kind_of ss = record { count = length ss; states = filled 8 blank_state ss }

-- the bytes of a type
abbrev pub kind_size : Kind → ℕ
kind_size k = 1 + 9 * k.count

-- the type at the front of the bytes: its state count, then its states
unfoldable pub kind_read : ℕ → List ℕ → Read Kind
kind_read ports bs =
    and_then (count_read bs) (λ n. and_then (many (state_read ports n) state_size 0 n (drop 1 bs)) (λ ss. Ok (kind_of ss)))

-- the sizes of the items together
unfoldable pub total : {X : Type 0} → (X → ℕ) → List X → ℕ
total size [] = 0
total size (x ∷ xs) = size x + total size xs

-- the tables with these counts and types
abbrev pub tables_of : Header → List Kind → Tables
tables_of h ks = record { types = h.types; ports = h.ports; kinds = filled 16 unused_kind ks }

-- the end of the file comes behind the last type
abbrev pub ended : Header → List ℕ → List Kind → Read Tables
ended h bs ks = refused_if (not (2 + total kind_size ks == length bs)) Length (Ok (tables_of h ks))

-- the whole file: header, types, and no byte behind them
unfoldable pub tables_read : List ℕ → Read Tables
tables_read bs =
    and_then (header_read bs) (λ h. and_then (many (λ _. kind_read h.ports) kind_size 0 h.types (drop 2 bs)) (ended h bs))

-- what the call answers
abbrev pub answer_of : {X : Type 0} → Read X → Read (Unit {0})
answer_of (Ok x) = Ok tt
answer_of (Err e) = Err e

-- what the place holds afterwards: what was read, or what it held
abbrev pub held_after : {X : Type 0} → Read X → X → X
held_after (Ok x) before = x
held_after (Err e) before = before
