-- The turns of the loops that read a type and a universe.
use Rattle.std.proofs.Common.{◌≡◌, ℕ, ◌+◌, ◌*◌, ◌<◌, ◌≤◌, List, ◌++◌, length, drop, replicate, set, take, Ok, Err, ap, refl, ◌∙◌, arith}
use Rattle.std.proofs.lemmas.List.{drop-replicate, length-drop, length-replicate, length-take-le}
use Rattle.std.proofs.lemmas.Bool.{eq-eqb, ne_eqb}
use Rattle.universe.specs.declared.refusal.UniverseRefusal.{UniverseRefusal}
use Rattle.universe.specs.declared.refusal.UniverseRefusal.TheVariants.{Length}
use Rattle.universe.specs.declared.tables.State.{State}
use Rattle.universe.specs.declared.tables.Kind.{Kind}
use Rattle.universe.specs.declared.tables.Tables.{Tables}
use Rattle.universe.specs.declared.groups.Header.{Header}
use Rattle.universe.specs.Tables.{blank_state, unused_kind}
use Rattle.universe.specs.Reading.{count_read, ended, filled, header_read, kind_of, kind_read, kind_size, state_read, state_size, tables_read, total}
use Rattle.universe.proofs.Manies.{Row, SoFar, row_begins, row_done, row_more, row_stops, total_states}

-- the states of a type
abbrev pub states_row : ℕ → List ℕ → ℕ → Row State Kind
states_row ports bs count = record {
  one = state_read ports count;
  size = state_size;
  count = count;
  bytes = bs;
  start = 1;
  finish = λ ss. Ok (kind_of ss);
  whole = kind_read ports bs;
}

-- the types of a universe
abbrev pub kinds_row : List ℕ → Header → Row Kind Tables
kinds_row bs h = record {
  one = λ _. kind_read h.ports;
  size = kind_size;
  count = h.types;
  bytes = bs;
  start = 2;
  finish = ended h bs;
  whole = tables_read bs;
}

-- an array of blanks: as many of them as are to be filled, and those behind the items
module _ {X : Type 0} (places n count : ℕ) (d : X) (blanks : List X) (b : blanks ≡ replicate places d) (e : n ≡ count) where
  part_in_use : count ≤ places → length (take n blanks) ≡ count
  part_in_use few = rw b (length-take-le n (replicate places d) (omega (arith, length-replicate places d)) ∙ e)

  filled_up : (xs : List X) → length xs ≡ count → filled places d xs ≡ xs ++ drop n blanks
  filled_up xs l = rw (b, l, drop-replicate n places d, e) refl

module _ (ports : ℕ) (bs : List ℕ) where
  module _ (count n : ℕ) (blanks : List State) (rest : List ℕ) (few : count ≤ 8) (b : blanks ≡ replicate 8 blank_state) (n-is : n ≡ count) where
    states_in_use : length (take n blanks) ≡ count
    states_in_use = part_in_use 8 n count blank_state blanks b n-is few

    pub kind_begins : count_read bs ≡ Ok count → 1 ≤ length bs → rest ≡ drop 1 bs → SoFar (states_row ports bs count) 0 (take n blanks) rest
    unfolding kind_read
    kind_begins h l b = row_begins (states_row ports bs count) (take n blanks) rest states_in_use (rw (h, b)) l b

    module _ (q : ℕ) (states : List State) (so : SoFar (states_row ports bs count) q states rest) where
      pub kind_stops : (e : UniverseRefusal) → q < length (take n blanks) → state_read ports count q rest ≡ Err e → kind_read ports bs ≡ Err e
      kind_stops e lt h = row_stops (states_row ports bs count) q states rest (omega (arith, states_in_use)) so e h

      pub kind_more : q < length (take n blanks) → (s : State) (behind : List ℕ) → state_read ports count q rest ≡ Ok s → 9 ≤ length rest → behind ≡ drop 9 rest → SoFar (states_row ports bs count) (q + 1) (set states q s) behind
      kind_more lt = row_more (states_row ports bs count) q states rest (omega (arith, states_in_use)) so

      pub kind_done : length (take n blanks) ≤ q
          → (kind_read ports bs ≡ Ok (record { count = count; states = states ++ drop n blanks })) × (1 + 9 * count ≤ length bs) × (rest ≡ drop (1 + 9 * count) bs)
      kind_done g =
          let d = row_done (states_row ports bs count) q states rest (omega (arith, states_in_use)) so in
          let size : 1 + total state_size (take q states) ≡ 1 + 9 * count = rw d.1 (omega (arith, total_states states, so.len)) in
          (d.0 ∙ rw (filled_up 8 n count blank_state blanks b n-is states so.len, so.len) refl, omega (arith, so.long, size), so.behind ∙ ap (λ i. drop i bs) size)

module _ (bs : List ℕ) where
  pub tables_refused : (e : UniverseRefusal) → header_read bs ≡ Err e → tables_read bs ≡ Err e
  unfolding tables_read
  tables_refused e h = rw h

  module _ (h : Header) (n : ℕ) (blanks : List Kind) (rest : List ℕ) (few : h.types ≤ 16) (b : blanks ≡ replicate 16 unused_kind) (n-is : n ≡ h.types) where
    kinds_in_use : length (take n blanks) ≡ h.types
    kinds_in_use = part_in_use 16 n h.types unused_kind blanks b n-is few

    pub tables_begin : header_read bs ≡ Ok h → 2 ≤ length bs → rest ≡ drop 2 bs → SoFar (kinds_row bs h) 0 (take n blanks) rest
    unfolding tables_read
    tables_begin r l b = row_begins (kinds_row bs h) (take n blanks) rest kinds_in_use (rw (r, b)) l b

    module _ (q : ℕ) (kinds : List Kind) (so : SoFar (kinds_row bs h) q kinds rest) where
      pub tables_stop : (e : UniverseRefusal) → q < length (take n blanks) → kind_read h.ports rest ≡ Err e → tables_read bs ≡ Err e
      tables_stop e lt r = row_stops (kinds_row bs h) q kinds rest (omega (arith, kinds_in_use)) so e r

      pub tables_more : q < length (take n blanks) → (k : Kind) (behind : List ℕ) → kind_read h.ports rest ≡ Ok k → kind_size k ≤ length rest → behind ≡ drop (kind_size k) rest → SoFar (kinds_row bs h) (q + 1) (set kinds q k) behind
      tables_more lt = row_more (kinds_row bs h) q kinds rest (omega (arith, kinds_in_use)) so

      module _ (g : length (take n blanks) ≤ q) where
        reached : length rest + (2 + total kind_size (take q kinds)) ≡ length bs
        reached = rw so.behind (omega (arith, so.long, length-drop (2 + total kind_size (take q kinds)) bs))

        done : (tables_read bs ≡ ended h bs kinds) × (take q kinds ≡ kinds)
        done = row_done (kinds_row bs h) q kinds rest (omega (arith, kinds_in_use)) so

        pub tables_cut : (length rest ≡ 0 → ⊥) → tables_read bs ≡ Err Length
        tables_cut ne = done.0 ∙ rw (ne_eqb (2 + total kind_size kinds) (length bs) (λ e. ne (omega (arith, (rw done.1 at reached)))))

        pub tables_done : length rest ≡ 0 → tables_read bs ≡ Ok (record { types = h.types; ports = h.ports; kinds = kinds ++ drop n blanks })
        tables_done e =
            done.0 ∙ rw (eq-eqb (2 + total kind_size kinds) (length bs) (omega (arith, (rw done.1 at reached))), filled_up 16 n h.types unused_kind blanks b n-is kinds so.len) refl
