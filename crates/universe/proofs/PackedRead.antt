-- The packed form of a universe is read, and what is read is that universe.
use Rattle.std.proofs.lemmas.Grind.{common_steps}
use Rattle.std.proofs.Common.{◌≡◌, ℕ, zero, suc, ◌+◌, ◌-◌, ◌*◌, ◌/◌, ◌%◌, ◌^◌, ◌<◌, ◌≤◌, Bool, true, false, List, [], ◌∷◌, ◌++◌, length, get_or, take, drop, replicate, Ok, sym, refl, ap, ◌∙◌, inl, inr, add-zero, add-suc, suc-add, zero-add, arith}
use mathlib.Core.Path.{fun_ext}
use Rattle.std.proofs.lemmas.List.{append-nil, drop_at, take_at, length-append, get_or_past}
use Rattle.std.proofs.lemmas.Bool.{le-ltb, eq-eqb, cases_lt}
use Rattle.std.specs.List.{flat_map}
use Rattle.model.specs.Universe.{Universe, Valid}
use Rattle.model.proofs.Searches.{refuted}
use Rattle.universe.specs.declared.tables.State.{State}
use Rattle.universe.specs.declared.tables.Kind.{Kind}
use Rattle.universe.specs.declared.groups.Header.{Header}
use Rattle.universe.specs.Sets.{has, field}
use Rattle.universe.specs.Tables.{blank_state, blank_kind, kind_at, entry_at, universe_of}
use Rattle.universe.specs.Reading.{many, header_of_word, header_read, count_of, count_read, state_read, state_size, kind_of, kind_read, kind_size, tables_of, total, tables_read}
use Rattle.universe.specs.Packed.{state_form, entry_of, rows, kind_form, header_bits, packed_form}
use Rattle.universe.proofs.PackedSets.{has_field, has_below, has_past, from_below}
use Rattle.universe.proofs.Eaches.{Each, each_map, many_reads, get_d_filled}
use Rattle.universe.proofs.Checked.{StateOk, KindOk, kind_of_lem, kind_unused, has_zero}
use Rattle.universe.proofs.PackedBack.{kind_bytes}

-- the values of n numbers from q on
unfoldable pub numbered : {X : Type 0} → (ℕ → X) → ℕ → ℕ → List X
numbered g q zero = []
numbered g q (suc n) = g q ∷ numbered g (suc q) n

numbered_length : {X : Type 0} (g : ℕ → X) (q n : ℕ) → length (numbered g q n) ≡ n
unfolding numbered
numbered_length g q zero = refl
numbered_length g q (suc n) = ap suc (numbered_length g (suc q) n)

numbered_joined : {X : Type 0} (form : X → List ℕ) (g : ℕ → X) (q n : ℕ) → flat_map form (numbered g q n) ≡ rows (λ i. form (g i)) q n
unfolding numbered rows
numbered_joined form g q zero = refl
numbered_joined form g q (suc n) = ap (λ l. form (g q) ++ l) (numbered_joined form g (suc q) n)

numbered_each : {X : Type 0} (P : ℕ → X → Type 0) (g : ℕ → X) (q n : ℕ) → ((i : ℕ) → i < q + n → P i (g i)) → Each P q (numbered g q n)
unfolding numbered
numbered_each P g q zero h = tt
numbered_each P g q (suc n) h = (h q (omega arith), numbered_each P g (suc q) n (λ i l. h i (omega arith)))

numbered_at : {X : Type 0} (g : ℕ → X) (d : X) (q n i : ℕ) → i < n → get_or (numbered g q n) i d ≡ g (q + i)
unfolding numbered
numbered_at g d q zero i l = absurd (omega arith)
numbered_at g d q (suc n) zero l = ap g (sym (add-zero q))
numbered_at g d q (suc n) (suc i) l = numbered_at g d (suc q) n i (omega arith) ∙ ap g (suc-add q i ∙ sym (add-suc q i))

rows_same : (f g : ℕ → List ℕ) (q n : ℕ) → ((i : ℕ) → f i ≡ g i) → rows f q n ≡ rows g q n
unfolding rows
rows_same f g q zero h = refl
rows_same f g q (suc n) h = rw (h q, rows_same f g (suc q) n h)

joined_length : {X : Type 0} (form : X → List ℕ) (size : X → ℕ) (q : ℕ) (xs : List X) → Each (λ _ x. length (form x) ≡ size x) q xs → length (flat_map form xs) ≡ total size xs
unfolding total
joined_length form size q [] e = refl
joined_length form size q (x ∷ xs) e = length-append (form x) (flat_map form xs) ∙ rw (e.0, joined_length form size (suc q) xs e.1)

-- an entry is read back from its form
state_read_lem : (ports count q : ℕ) (s : State) (rest : List ℕ) → StateOk ports count q s → (state_read ports count q (state_form s ++ rest) ≡ Ok s) × (drop 9 (state_form s ++ rest) ≡ rest)
unfolding state_read
state_read_lem ports count q s rest ok = grind (arith, common_steps)

form_length : (ss : List State) → length (flat_map state_form ss) ≡ 9 * length ss
form_length [] = refl
form_length (s ∷ ss) = let e = form_length ss in omega arith

kept : (ss : List State) → take (length ss) (ss ++ replicate (8 - length ss) blank_state) ≡ ss
kept ss = take_at ss (replicate (8 - length ss) blank_state) (length ss) refl

kind_length : (ports : ℕ) (k : Kind) → KindOk ports k → length (kind_bytes k) ≡ kind_size k
kind_length ports k ok = rw (ok.is, kept ok.states) (let e = form_length ok.states in omega arith)

count_passes : (n : ℕ) → 1 ≤ n → n ≤ 8 → count_of (n * 2 ^ 4) ≡ Ok n
count_passes n some few = grind (arith, common_steps)

kind_read_lem : (ports : ℕ) (k : Kind) (rest : List ℕ) → KindOk ports k → (kind_read ports (kind_bytes k ++ rest) ≡ Ok k) × (drop (kind_size k) (kind_bytes k ++ rest) ≡ rest)
unfolding kind_read count_read
kind_read_lem ports k rest ok = (reads, drop_at (kind_bytes k) rest (kind_size k) (kind_length ports k ok))
  where
    ss : List State
    ss = ok.states

    states : many (state_read ports (length ok.states)) state_size 0 (length ok.states) (flat_map state_form ok.states ++ rest) ≡ Ok ok.states
    states = many_reads (state_read ports (length ok.states)) state_size state_form (StateOk ports (length ok.states)) (λ q s rest o. state_read_lem ports (length ok.states) q s rest o) 0 ok.states rest ok.each

    reads : kind_read ports (kind_bytes k ++ rest) ≡ Ok k
    reads = rw (ok.is, kept ok.states, le-ltb (suc (length (flat_map state_form ok.states ++ rest))) 1 (omega arith), count_passes (length ok.states) ok.some ok.few, states)

field_none : (w : ℕ) (f : ℕ → Bool) → ((p : ℕ) → f p ≡ false) → field w f ≡ 0
unfolding field
field_none zero f h = refl
field_none (suc w) f h = rw (field_none w f h, h w)

-- what a field holds passed
field_only : (w : ℕ) (f : ℕ → Bool) (p : ℕ) → has w (field w f) p ≡ true → f p ≡ true
field_only w f p e = sym (has_field w f p (has_below w (field w f) p e)) ∙ e

-- a field of all that passes holds just that
field_all : (w : ℕ) (f : ℕ → Bool) → ((p : ℕ) → f p ≡ true → p < w) → (p : ℕ) → has w (field w f) p ≡ f p
field_all w f low p = elim (cases_lt p w) [
  | inl l ↦ has_field w f p l
  | inr g ↦ has_past w (field w f) p g ∙ sym (refuted (f p) (λ e. omega (arith, low p e)))
]

headers_pass : (types ports : ℕ) → 1 ≤ types → types ≤ 16 → ports ≤ 32 → header_of_word (header_bits types ports / 2 ^ 8 * 256 + header_bits types ports % 2 ^ 8) ≡ Ok (record { types = types; ports = ports })
headers_pass types ports some few low = grind (arith, common_steps)

module _ (u : Universe) (v : Valid u) where
  abbrev states_of : ℕ → List State
  states_of t = numbered (entry_of u t) 0 (u.states t)

  abbrev kinds_of : List Kind
  kinds_of = numbered (λ t. kind_of (states_of t)) 0 u.types

  abbrev header : Header
  header = record { types = u.types; ports = u.ports }

  state_valid : (t q : ℕ) → StateOk u.ports (u.states t) q (entry_of u t q)
  state_valid t q = record {
    provided = from_below 32 (field 32 (u.provides t q)) u.ports (λ p e. (v.provides t q p (field_only 32 (u.provides t q) p e)).1);
    required = from_below 32 (field 32 (u.requires t q)) u.ports (λ p e. (v.requires t q p (field_only 32 (u.requires t q) p e)).1);
    itself = refuted (has 8 (field 8 (u.next t q)) q) (λ e. (v.next t q q (field_only 8 (u.next t q) q e)).2 refl);
    successors = from_below 8 (field 8 (u.next t q)) (u.states t) (λ n e. (v.next t q n (field_only 8 (u.next t q) n e)).1);
    initial = λ e. ap (λ q. field 32 (u.requires t q)) e ∙ field_none 32 (u.requires t 0) (v.initial t);
  }

  kind_valid : (t : ℕ) → t < u.types → KindOk u.ports (kind_of (states_of t))
  kind_valid t l =
      let n = numbered_length (entry_of u t) 0 (u.states t) in
      let b = v.states t l in
      record {
        states = states_of t;
        is = refl;
        some = omega (arith, n, b.0);
        few = omega (arith, n, b.1);
        each = rw n (numbered_each (StateOk u.ports (u.states t)) (entry_of u t) 0 (u.states t) (λ q _. state_valid t q));
      }

  kind_form_lem : (t : ℕ) → kind_form u t ≡ kind_bytes (kind_of (states_of t))
  kind_form_lem t =
      rw (kept (states_of t), numbered_length (entry_of u t) 0 (u.states t), numbered_joined state_form (entry_of u t) 0 (u.states t))

  forms : rows (kind_form u) 0 u.types ≡ flat_map kind_bytes kinds_of
  forms = rows_same (kind_form u) (λ t. kind_bytes (kind_of (states_of t))) 0 u.types kind_form_lem ∙ sym (numbered_joined kind_bytes (λ t. kind_of (states_of t)) 0 u.types)

  kinds_valid : Each (λ _. KindOk u.ports) 0 kinds_of
  kinds_valid = numbered_each (λ _. KindOk u.ports) (λ t. kind_of (states_of t)) 0 u.types (λ t l. kind_valid t (omega arith))

  kinds_length : length kinds_of ≡ u.types
  kinds_length = numbered_length (λ t. kind_of (states_of t)) 0 u.types

  kinds_read : many (λ _. kind_read u.ports) kind_size 0 u.types (flat_map kind_bytes kinds_of) ≡ Ok kinds_of
  kinds_read =
      let r = many_reads (λ _. kind_read u.ports) kind_size kind_bytes (λ _. KindOk u.ports) (λ _. kind_read_lem u.ports) 0 kinds_of [] kinds_valid in
      (rw (kinds_length, append-nil (flat_map kind_bytes kinds_of)) at r)

  pub packed_read : tables_read (packed_form u) ≡ Ok (tables_of header kinds_of)
  unfolding tables_read header_read
  packed_read =
      let long = joined_length kind_bytes kind_size 0 kinds_of (each_map (λ _ k ok. kind_length u.ports k ok) 0 kinds_of kinds_valid) in
      rw (
        forms,
        le-ltb (suc (suc (length (flat_map kind_bytes kinds_of)))) 2 (omega arith),
        headers_pass u.types u.ports v.types.0 v.types.1 v.ports,
        kinds_read,
        eq-eqb (2 + total kind_size kinds_of) (suc (suc (length (flat_map kind_bytes kinds_of)))) (omega (arith, long)),
      )

  entry_same : (t q : ℕ) → t < u.types → q < u.states t → entry_at (tables_of header kinds_of) t q ≡ entry_of u t q
  entry_same t q l m =
      rw (kind_of_lem header kinds_of kinds_length v.types.1 t l, numbered_at (λ t. kind_of (states_of t)) blank_kind 0 u.types t l, zero-add t)
      (get_d_filled blank_state (8 - length (states_of t)) (states_of t) q ∙ (numbered_at (entry_of u t) blank_state 0 (u.states t) q m ∙ ap (entry_of u t) (zero-add q)))

  entry_none : (t q : ℕ) → ((t < u.types) × (q < u.states t) → ⊥) → entry_at (tables_of header kinds_of) t q ≡ blank_state
  entry_none t q none = elim (cases_lt t u.types) [
    | inl l ↦ elim (cases_lt q (u.states t)) [
      | inl m ↦ absurd (none (l, m))
      | inr g ↦ rw (kind_of_lem header kinds_of kinds_length v.types.1 t l, numbered_at (λ t. kind_of (states_of t)) blank_kind 0 u.types t l, zero-add t)
          (get_d_filled blank_state (8 - length (states_of t)) (states_of t) q ∙ get_or_past (states_of t) q blank_state (omega (arith, numbered_length (entry_of u t) 0 (u.states t))))
    ]
    | inr g ↦ (kind_unused header kinds_of kinds_length v.types.1 t g).blank q
  ]

  -- a set of the entries is the universe's, where what passes is in range
  set_same : (w : ℕ) (set : State → ℕ) (f : ℕ → ℕ → ℕ → Bool) → ((t q : ℕ) → set (entry_of u t q) ≡ field w (f t q)) → set blank_state ≡ 0
      → ((t q p : ℕ) → f t q p ≡ true → (t < u.types) × (q < u.states t) × (p < w))
      → (t q p : ℕ) → has w (set (entry_at (tables_of header kinds_of) t q)) p ≡ f t q p
  set_same w set f packs blank low t q p =
      elim (cases_lt t u.types) [
        | inl l ↦ elim (cases_lt q (u.states t)) [
          | inl m ↦ ap (λ s. has w (set s) p) (entry_same t q l m) ∙ (ap (λ m. has w m p) (packs t q) ∙ field_all w (f t q) (λ p e. (low t q p e).2) p)
          | inr g ↦ none (λ d. omega (arith, d.1))
        ]
        | inr g ↦ none (λ d. omega (arith, d.0))
      ]
    where
      none : ((t < u.types) × (q < u.states t) → ⊥) → has w (set (entry_at (tables_of header kinds_of) t q)) p ≡ f t q p
      none out = ap (λ s. has w (set s) p) (entry_none t q out) ∙ (ap (λ m. has w m p) blank ∙ (has_zero w p ∙ sym (refuted (f t q p) (λ e. let d = low t q p e in out (d.0, d.1)))))

  states_same : (t : ℕ) → (kind_at (tables_of header kinds_of) t).count ≡ u.states t
  states_same t = elim (cases_lt t u.types) [
    | inl l ↦ rw (kind_of_lem header kinds_of kinds_length v.types.1 t l, numbered_at (λ t. kind_of (states_of t)) blank_kind 0 u.types t l, zero-add t) (numbered_length (entry_of u t) 0 (u.states t))
    | inr g ↦ (kind_unused header kinds_of kinds_length v.types.1 t g).count ∙ sym (v.beyond t g)
  ]

  provides_same : (t q p : ℕ) → has 32 (entry_at (tables_of header kinds_of) t q).provided p ≡ u.provides t q p
  provides_same = set_same 32 (λ s. s.provided) u.provides (λ t q. refl) refl (λ t q p e. let d = v.provides t q p e in let k = v.ports in (d.0.0, d.0.1, omega (arith, d.1)))

  requires_same : (t q p : ℕ) → has 32 (entry_at (tables_of header kinds_of) t q).required p ≡ u.requires t q p
  requires_same = set_same 32 (λ s. s.required) u.requires (λ t q. refl) refl (λ t q p e. let d = v.requires t q p e in let k = v.ports in (d.0.0, d.0.1, omega (arith, d.1)))

  next_same : (t q n : ℕ) → has 8 (entry_at (tables_of header kinds_of) t q).successors n ≡ u.next t q n
  next_same = set_same 8 (λ s. s.successors) u.next (λ t q. refl) refl (λ t q n e. let d = v.next t q n e in let k = v.states t d.0.0 in (d.0.0, d.0.1, omega (arith, d.1, k.1)))

  pub universe_same : universe_of (tables_of header kinds_of) ≡ u
  universe_same = λ i. record {
    types = u.types;
    ports = u.ports;
    states = fun_ext states_same i;
    provides = fun_ext (λ t. fun_ext (λ q. fun_ext (provides_same t q))) i;
    requires = fun_ext (λ t. fun_ext (λ q. fun_ext (requires_same t q))) i;
    next = fun_ext (λ t. fun_ext (λ q. fun_ext (next_same t q))) i;
  }
