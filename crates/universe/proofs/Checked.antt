-- Tables that were read hold a valid universe.
use Rattle.std.proofs.lemmas.Grind.{common_steps}
use Rattle.std.proofs.Common.{◌≡◌, ℕ, ◌+◌, ◌-◌, ◌*◌, ◌/◌, ◌%◌, ◌^◌, ◌<◌, ◌≤◌, false, ltb, ◌⊎◌, List, [], ◌++◌, length, get_or, drop, replicate, Ok, sym, refl, ap, ◌∙◌, inl, inr, zero-add, arith}
use Rattle.std.proofs.lemmas.List.{get_or_append_left, get_or-append_right, get_or_past, get_or-replicate, length-append, length-replicate}
use Rattle.std.proofs.lemmas.Bool.{both_ways, cases_lt}
use Rattle.universe.specs.declared.tables.State.{State}
use Rattle.universe.specs.declared.tables.Kind.{Kind}
use Rattle.universe.specs.declared.tables.Tables.{Tables}
use Rattle.universe.specs.declared.groups.Header.{Header}
use Rattle.universe.specs.Sets.{has, has_from}
use Rattle.universe.specs.Tables.{unused_kind, Sound, blank_state, blank_kind, kind_at, entry_at}
use Rattle.universe.specs.Reading.{many, header_of_word, header_read, count_of, count_read, state_of, state_read, state_size, kind_of, kind_read, kind_size, tables_of, total, tables_read}
use Rattle.universe.proofs.PackedSets.{below_from}
use Rattle.universe.proofs.Eaches.{Each, each_at, then_ok, if_ok, ok_same, many_each, get_d_filled}

-- the entry passed the tests of the state q
pub record StateOk (ports count q : ℕ) (s : State) : Type 0 where
  pub provided : has_from 32 s.provided ports ≡ false
  pub required : has_from 32 s.required ports ≡ false
  pub itself : has 8 s.successors q ≡ false
  pub successors : has_from 8 s.successors count ≡ false
  pub initial : q ≡ 0 → s.required ≡ 0

-- the type has 1 to 8 states, which passed
pub record KindOk (ports : ℕ) (k : Kind) : Type 0 where
  pub states : List State
  pub is : k ≡ kind_of states
  pub some : 1 ≤ length states
  pub few : length states ≤ 8
  pub each : Each (StateOk ports (length states)) 0 states

pub state_told : (ports count q : ℕ) (s s' : State) → state_of ports count q s ≡ Ok s' → (s ≡ s') × StateOk ports count q s
state_told ports count q s s' h = grind (arith, common_steps)

pub state_ok : (ports count q : ℕ) (bs : List ℕ) (s : State) → state_read ports count q bs ≡ Ok s → StateOk ports count q s
unfolding state_read
state_ok ports count q bs s h = grind (arith, common_steps)

pub count_told : (bits n : ℕ) → count_of bits ≡ Ok n → (bits / 2 ^ 4 ≡ n) × (bits % 2 ^ 4 ≡ 0) × (1 ≤ n) × (n ≤ 8)
count_told bits n h = grind (arith, common_steps)

pub header_told : (bits : ℕ) (h : Header) → header_of_word bits ≡ Ok h → (h ≡ record { types = bits / 2 ^ 11; ports = bits / 2 ^ 5 % 2 ^ 6 }) × (bits % 2 ^ 5 ≡ 0) × (1 ≤ bits / 2 ^ 11) × (bits / 2 ^ 11 ≤ 16) × (bits / 2 ^ 5 % 2 ^ 6 ≤ 32)
header_told bits h e = grind (arith, common_steps)

abbrev Any : List ℕ → Type 0
Any bs = Unit {0}

pub kind_ok : (ports : ℕ) (bs : List ℕ) (k : Kind) → kind_read ports bs ≡ Ok k → KindOk ports k
unfolding kind_read count_read
kind_ok ports bs k h =
    let a = then_ok (count_read bs) _ k h in
    let n = a.0 in
    let b = then_ok (many (state_read ports n) state_size 0 n (drop 1 bs)) _ k a.2 in
    let d = if_ok (ltb (length bs) 1) _ (count_of (get_or bs 0 0)) n a.1 in
    let m = count_told (get_or bs 0 0) n d.1 in
    let e = many_each (state_read ports n) state_size Any (StateOk ports n) (λ _ _ x. x) (λ q bs s _ r. state_ok ports n q bs s r) n 0 (drop 1 bs) b.0 tt b.1 in
    record {
      states = b.0;
      is = sym (ok_same _ k b.2);
      some = omega (arith, e.1, m.2);
      few = omega (arith, e.1, m.3);
      each = rw e.1 e.0;
    }

pub has_zero : (w p : ℕ) → has w 0 p ≡ false
unfolding has
has_zero w p = grind (arith, common_steps)

-- the entry of a state is one that passed, or blank
pub record Tested (u : Tables) (t q : ℕ) : Type 0 where
  pub type : t < u.types
  pub state : q < (kind_at u t).count
  pub ok : StateOk u.ports (kind_at u t).count q (entry_at u t q)

kind_entry : (ports : ℕ) (k : Kind) → KindOk ports k → (q : ℕ) → ((q < k.count) × StateOk ports k.count q (get_or k.states q blank_state)) ⊎ (get_or k.states q blank_state ≡ blank_state)
kind_entry ports k ok q =
    let ss = ok.states in
    let place = get_d_filled blank_state (8 - length ss) ss q in
    rw (ok.is, place) (elim (cases_lt q (length ss)) [
      | inl l ↦ inl (l, (rw (zero-add q) at (each_at (StateOk ports (length ss)) 0 ss blank_state ok.each q l)))
      | inr g ↦ inr (get_or_past ss q blank_state g)
    ])

-- a type of the tables is one that passed, or has no states
pub record Unused (u : Tables) (t : ℕ) : Type 0 where
  pub count : (kind_at u t).count ≡ 0
  pub blank : (q : ℕ) → entry_at u t q ≡ blank_state

module _ (h : Header) (ks : List Kind) (many : length ks ≡ h.types) (few : h.types ≤ 16) where
  abbrev read : Tables
  read = tables_of h ks

  pub kind_of_lem : (t : ℕ) → t < h.types → kind_at read t ≡ get_or ks t blank_kind
  kind_of_lem t l = get_or_append_left ks (replicate (16 - length ks) unused_kind) blank_kind t (omega arith)

  pub kind_unused : (t : ℕ) → h.types ≤ t → Unused read t
  kind_unused t g = elim (cases_lt t 16) [
    | inl l ↦ let e : kind_at read t ≡ unused_kind = get_or-append_right ks (replicate (16 - length ks) unused_kind) (length ks) t blank_kind refl (omega arith) ∙ get_or-replicate (16 - length ks) (t - length ks) unused_kind blank_kind (omega arith) in
        record { count = rw e; blank = λ q. rw e (get_d_filled blank_state 8 [] q) }
    | inr p ↦ let e : kind_at read t ≡ blank_kind = get_or_past (ks ++ replicate (16 - length ks) unused_kind) t blank_kind (omega (arith, length-append ks (replicate (16 - length ks) unused_kind), length-replicate (16 - length ks) unused_kind)) in
        record { count = rw e; blank = λ q. rw e refl }
  ]

  module _ (each : Each (λ _. KindOk h.ports) 0 ks) where
    kind_told : (t : ℕ) → t < h.types → KindOk h.ports (kind_at read t)
    kind_told t l = rw (kind_of_lem t l) (each_at (λ _. KindOk h.ports) 0 ks blank_kind each t (omega arith))

    pub tested : (t q : ℕ) → Tested read t q ⊎ (entry_at read t q ≡ blank_state)
    tested t q = elim (cases_lt t h.types) [
      | inl l ↦ elim (kind_entry h.ports (kind_at read t) (kind_told t l) q) [
        | inl w ↦ inl (record { type = l; state = w.0; ok = w.1 })
        | inr e ↦ inr e
      ]
      | inr g ↦ inr ((kind_unused t g).blank q)
    ]

    lengths : (t : ℕ) → t < 16 → length (kind_at read t).states ≡ 8
    lengths t l = elim (cases_lt t h.types) [
      | inl m ↦ let ok = kind_told t m in
          rw (ok.is, length-append ok.states (replicate (8 - length ok.states) blank_state), length-replicate (8 - length ok.states) blank_state) (omega (arith, ok.few))
      | inr g ↦ let e : kind_at read t ≡ unused_kind = get_or-append_right ks (replicate (16 - length ks) unused_kind) (length ks) t blank_kind refl (omega arith) ∙ get_or-replicate (16 - length ks) (t - length ks) unused_kind blank_kind (omega arith) in rw e
    ]

    counts : (t : ℕ) → t < h.types → (1 ≤ (kind_at read t).count) × ((kind_at read t).count ≤ 8)
    counts t l = let ok = kind_told t l in rw ok.is (ok.some, ok.few)

    -- tables of types that passed hold a valid universe
    pub tables_sound : 1 ≤ h.types → h.ports ≤ 32 → Sound read
    tables_sound some ports = record {
      kinds = length-append ks (replicate (16 - length ks) unused_kind) ∙ rw (length-replicate (16 - length ks) unused_kind) (omega arith);
      states = lengths;
      valid = record {
        types = (some, few);
        ports = ports;
        states = counts;
        provides = λ t q p e. elim (tested t q) [
          | inl w ↦ ((w.type, w.state), below_from 32 (entry_at read t q).provided h.ports p w.ok.provided e)
          | inr b ↦ absurd (both_ways _ (rw b (has_zero 32 p)) e)
        ];
        requires = λ t q p e. elim (tested t q) [
          | inl w ↦ ((w.type, w.state), below_from 32 (entry_at read t q).required h.ports p w.ok.required e)
          | inr b ↦ absurd (both_ways _ (rw b (has_zero 32 p)) e)
        ];
        next = λ t q n e. elim (tested t q) [
          | inl w ↦ ((w.type, w.state), below_from 8 (entry_at read t q).successors (kind_at read t).count n w.ok.successors e, λ same. both_ways (has 8 (entry_at read t q).successors q) w.ok.itself (ap (has 8 (entry_at read t q).successors) (sym same) ∙ e))
          | inr b ↦ absurd (both_ways _ (rw b (has_zero 8 n)) e)
        ];
        initial = λ t p. elim (tested t 0) [
          | inl w ↦ rw (w.ok.initial refl) (has_zero 32 p)
          | inr b ↦ rw b (has_zero 32 p)
        ];
        beyond = λ t g. (kind_unused t g).count;
      };
    }

-- what the reading of a file tells
pub record FileRead (bs : List ℕ) (u : Tables) : Type 0 where
  pub header : Header
  pub kinds : List Kind
  pub is : u ≡ tables_of header kinds
  pub long : 2 ≤ length bs
  pub bits : header_of_word (get_or bs 0 0 * 256 + get_or bs 1 0) ≡ Ok header
  pub row : many (λ _. kind_read header.ports) kind_size 0 header.types (drop 2 bs) ≡ Ok kinds
  pub end : 2 + total kind_size kinds ≡ length bs

pub file_read : (bs : List ℕ) (u : Tables) → tables_read bs ≡ Ok u → FileRead bs u
unfolding tables_read header_read
file_read bs u h = grind (arith, common_steps)

pub read_sound : (bs : List ℕ) (u : Tables) → tables_read bs ≡ Ok u → Sound u
read_sound bs u e =
    let f = file_read bs u e in
    let t = header_told (get_or bs 0 0 * 256 + get_or bs 1 0) f.header f.bits in
    let m = many_each (λ _. kind_read f.header.ports) kind_size Any (λ _. KindOk f.header.ports) (λ _ _ x. x) (λ _ bs k _ r. kind_ok f.header.ports bs k r) f.header.types 0 (drop 2 bs) f.kinds tt f.row in
    let types = ap (λ h. h.types) t.0 in
    let ports = ap (λ h. h.ports) t.0 in
    rw f.is (tables_sound f.header f.kinds m.1 (omega (arith, types, t.3)) m.0 (omega (arith, types, t.2)) (omega (arith, ports, t.4)))
