-- What ordered rows hold, and what a search among them tells. Assumes nothing.
use Rattle.std.proofs.Common.{◌≡◌, ℕ, zero, suc, ◌+◌, ◌-◌, ◌*◌, ◌<◌, ◌≤◌, Bool, true, false, ◌&&◌, ◌||◌, eqb, ltb, List, length, take, get_or, count_ones, Decides, Option, Some, None, MatchOption, Bor, sym, refl, ap, ◌∙◌, inl, inr, arith}
use mathlib.Core.Bool.{or-false}
use Rattle.std.proofs.lemmas.Bool.{and_from, and_parts, cases_lt, cases_order, eq-eqb, eqb-true, lt-ltb, ltb-true}
use Rattle.std.proofs.lemmas.Bool.Decides.{same_from_decides, Decides-like}
use Rattle.std.proofs.lemmas.Nat.{zero_from_ones}
use Rattle.std.specs.Slice.{IsItemAt}
use Rattle.std.proofs.lemmas.List.{get_or-take, get_or_default, length-take-le}
use Rattle.std.specs.List.{between}
use Rattle.std.proofs.lemmas.List.Edits.{length-between, get_or-between}
use Rattle.model.specs.declared.pair.Pair.{Pair}
use Rattle.model.specs.Search.{any, sum_below}
use Rattle.model.specs.Config.{Config}
use Rattle.model.specs.Counts.{bindings}
use Rattle.model.proofs.Searches.{any_found, any_some, any_none, refuted}
use Rattle.model.proofs.Counting.{bindings_none}
use Rattle.universe.specs.Sets.{has}
use Rattle.universe.proofs.PackedSets.{has_below}
use Rattle.hosts.specs.Offences.{provider_test}
use Rattle.table.specs.declared.row.Row.{Row}
use Rattle.table.specs.Rows.{blank, row, rank, joins, held, total, Ordered, Formed, Place}
use Rattle.table.specs.Covers.{RowsFrom}
use Rattle.table.proofs.PairCounts.{bindings_with}
use Rattle.table.proofs.PortSets.{port_count, some_port}

-- a row that was read
pub read : (xs : List Row) (i : ℕ) (b : Row) → i < length xs → b ≡ get_or xs i b → b ≡ row xs i
read xs i b l e = e ∙ get_or_default xs i b blank l

-- a test of the row at a place among the first n, if there is one
pub tested : (xs : List Row) (n r : ℕ) (p : Row → Bool) (o : Option (Bor Row)) (a : Bool) → n ≤ length xs → IsItemAt (take n xs) r o
    → MatchOption o (a ≡ false) (λ x. a ≡ p x.now) → a ≡ (ltb r n && p (row xs r))
tested xs n r p None a room at told =
    let there : false ≡ ltb r n = at.0 ∙ ap (ltb r) (length-take-le n xs room) in
    rw (← there) told
tested xs n r p (Some x) a room at told =
    let there : true ≡ ltb r n = at.0 ∙ ap (ltb r) (length-take-le n xs room) in
    let lr : r < n = ltb-true r n (sym there) in
    let same : x.now ≡ row xs r = at.1 ∙ get_or-take n xs r x.now lr ∙ get_or_default xs r x.now blank (omega (arith, lr, room)) in
    rw (← there) (told ∙ ap p same)

-- the row has the port p, and is from x to y
pub record Joins (b : Row) (p x y : ℕ) : Type 0 where
  pub port : has 32 b.ports p ≡ true
  pub provider : b.provider ≡ x
  pub requirer : b.requirer ≡ y

pub joins_tells : (b : Row) (p x y : ℕ) → Decides (joins b p x y) (Joins b p x y)
joins_tells b p x y = (
  (λ e.
      let ends = and_parts (has 32 b.ports p && eqb b.provider x) (eqb b.requirer y) e in
      let from = and_parts (has 32 b.ports p) (eqb b.provider x) ends.0 in
      record { port = from.0; provider = eqb-true _ _ from.1; requirer = eqb-true _ _ ends.1 }),
  (λ j. and_from (has 32 b.ports p && eqb b.provider x) _ (and_from (has 32 b.ports p) _ j.port (eq-eqb _ _ j.provider)) (eq-eqb _ _ j.requirer)),
)

-- a row is between its own ends, and has each of its ports
pub joins_self : (b : Row) (p : ℕ) → joins b p b.provider b.requirer ≡ has 32 b.ports p
joins_self b p = rw (eq-eqb b.provider b.provider refl, eq-eqb b.requirer b.requirer refl) (alone (has 32 b.ports p))
  where
    alone : (a : Bool) → (a && true && true) ≡ a
    alone true = refl
    alone false = refl

-- and its rank is that of its ends
pub joins_rank : (b : Row) (p x y : ℕ) → joins b p x y ≡ true → rank b ≡ x * 256 + y
joins_rank b p x y e = let j = (joins_tells b p x y).0 e in omega (arith, j.provider, j.requirer)

-- rows of one rank have the same ends
pub rank_one : (b : Row) (x y : ℕ) → x < 256 → y < 256 → rank b ≡ x * 256 + y → (b.provider ≡ x) × (b.requirer ≡ y)
rank_one b x y lx ly e = (omega (arith, b.in_range), omega (arith, b.in_range))

-- one of the first n rows is from x to y and has the port p
abbrev pub Found : List Row → ℕ → ℕ → ℕ → ℕ → Type 0
Found xs n p x y = (i : ℕ) × (i < n) × (joins (row xs i) p x y ≡ true)

pub held_tells : (xs : List Row) (n p x y : ℕ) → Decides (held xs n p x y) (Found xs n p x y)
held_tells xs n p x y = (
  any_some (λ i. joins (row xs i) p x y) n,
  (λ a. any_found (λ i. joins (row xs i) p x y) a.0 n a.1 a.2),
)

pub any_suc : (f : ℕ → Bool) (n : ℕ) → any f (suc n) ≡ (any f n || f n)
unfolding any
any_suc f n = refl

-- a configuration whose bindings are the rows
abbrev pub holding : (ℕ → Option Pair) → List Row → ℕ → Config
holding f xs n = record { inst = f; bound = held xs n }

module _ (xs : List Row) (n : ℕ) (o : Ordered xs n) where
  -- rows of one rank are one
  pub one_place : (i j : ℕ) → i < n → j < n → rank (row xs i) ≡ rank (row xs j) → i ≡ j
  one_place i j li lj e =
      elim (cases_order i j) [
        | inl same ↦ same
        | inr apart ↦ elim apart [
          | inl lt ↦ let r = o i j lt lj in absurd (omega arith)
          | inr gt ↦ let r = o j i gt li in absurd (omega arith)
        ]
      ]

  pub fewer : (m : ℕ) → m ≤ n → Ordered xs m
  fewer m l i j a b = o i j a (omega arith)

  -- what is held is in range
  pub held_within : (p x y : ℕ) → held xs n p x y ≡ true → (p < 32) × (x < 256) × (y < 256)
  held_within p x y e =
      let a = (held_tells xs n p x y).0 e in
      let b = row xs a.0 in
      let j = (joins_tells b p x y).0 a.2 in
      (has_below 32 b.ports p j.port, omega (arith, j.provider, b.in_range), omega (arith, j.requirer, b.in_range))

  -- at the place of the rank k stands the least row of this rank or more
  pub least_at : (k r i : ℕ) → Place xs n k r → i < n → k ≤ rank (row xs i) →
      (r < n) × (k ≤ rank (row xs r)) × (rank (row xs r) ≤ rank (row xs i))
  least_at k r i at li h =
      elim (cases_order i r) [
        | inl e ↦ rw (← e) (li, h, omega arith)
        | inr apart ↦ elim apart [
          | inl lt ↦ let b = at.before i lt in absurd (omega arith)
          | inr gt ↦
              let lr : r < n = omega arith in
              let a = at.after r (omega arith) lr in
              let b = o r i gt li in
              (lr, a, omega arith)
        ]
      ]

  -- a binding is held exactly if the row at the place of its rank has it
  module _ (x y k r : ℕ) (lx : x < 256) (ly : y < 256) (is : k ≡ x * 256 + y) (at : Place xs n k r) where
    pub stands_at : (p : ℕ) → Found xs n p x y → (r < n) × (rank (row xs r) ≡ k) × (has 32 (row xs r).ports p ≡ true)
    stands_at p a =
        let same = joins_rank (row xs a.0) p x y a.2 in
        let l = least_at k r a.0 at a.1 (omega arith) in
        let e = one_place r a.0 l.0 a.1 (omega (arith, l.1, l.2, same)) in
        let j = (joins_tells (row xs a.0) p x y).0 a.2 in
        (l.0, omega (arith, l.1, l.2, same), ap (λ i. has 32 (row xs i).ports p) e ∙ j.port)

    at_tells : (p : ℕ) → Decides (ltb r n && (eqb (rank (row xs r)) k && has 32 (row xs r).ports p)) (Found xs n p x y)
    at_tells p = (
      (λ e.
          let t = and_parts (ltb r n) _ e in
          let s = and_parts (eqb (rank (row xs r)) k) _ t.1 in
          let ends = rank_one (row xs r) x y lx ly (eqb-true _ _ s.0 ∙ is) in
          (r, ltb-true r n t.0, (joins_tells (row xs r) p x y).1 (record { port = s.1; provider = ends.0; requirer = ends.1 }))),
      (λ a. let t = stands_at p a in and_from (ltb r n) _ (lt-ltb r n t.0) (and_from (eqb (rank (row xs r)) k) _ (eq-eqb _ _ t.1) t.2)),
    )

    pub held_found : (p : ℕ) (a : Bool) → a ≡ (ltb r n && (eqb (rank (row xs r)) k && has 32 (row xs r).ports p)) → a ≡ held xs n p x y
    held_found p a e = e ∙ same_from_decides _ _ (at_tells p) (held_tells xs n p x y)

-- some row has the provider z
module _ (xs : List Row) (n : ℕ) (formed : Formed xs n) (f : ℕ → Option Pair) (z : ℕ) where
  abbrev From : Type 0
  From = (i : ℕ) × (i < n) × ((row xs i).provider ≡ z)

  provider_tells : Decides (provider_test (holding f xs n) z) From
  unfolding provider_test
  provider_tells = (
    (λ e.
        let p = any_some (λ p. any (held xs n p z) 256) 32 e in
        let y = any_some (held xs n p.0 z) 256 p.2 in
        let a = (held_tells xs n p.0 z y.0).0 y.2 in
        (a.0, a.1, ((joins_tells (row xs a.0) p.0 z y.0).0 a.2).provider)),
    (λ a.
        let b = row xs a.0 in
        let p = some_port b.ports b.in_range.2 (formed.filled a.0 a.1) in
        any_found (λ p. any (held xs n p z) 256) p.0 32 p.1
        (any_found (held xs n p.0 z) b.requirer 256 b.in_range.1
        ((held_tells xs n p.0 z b.requirer).1
        (a.0, a.1, (joins_tells b p.0 z b.requirer).1 (record { port = p.2; provider = a.2; requirer = refl }))))),
  )

  -- and then the row at the place of the least rank of z has it
  pub provider_found : (r : ℕ) → Place xs n (z * 256) r →
      (a : Bool) → a ≡ (ltb r n && eqb (row xs r).provider z) → a ≡ provider_test (holding f xs n) z
  provider_found r at a e = e ∙ same_from_decides _ _ from_tells provider_tells
    where
      from_tells : Decides (ltb r n && eqb (row xs r).provider z) From
      from_tells = (
        (λ e. let t = and_parts (ltb r n) _ e in (r, ltb-true r n t.0, eqb-true _ _ t.1)),
        (λ a.
            let l = least_at xs n formed.ordered (z * 256) r a.0 at a.1 (omega (arith, a.2)) in
            let is : (row xs r).provider ≡ z = omega (arith, a.2, l.1, l.2, (row xs r).in_range, (row xs a.0).in_range) in
            and_from (ltb r n) _ (lt-ltb r n l.0) (eq-eqb _ _ is)),
      )

  pub provider_beyond : 255 < z → false ≡ provider_test (holding f xs n) z
  provider_beyond h =
      sym (refuted _ (λ e. let a = provider_tells.0 e in omega (arith, a.2, (row xs a.0).in_range)))

-- the rows hold as many bindings as stand
pub row_count : (f : ℕ → Option Pair) (xs : List Row) (n : ℕ) → Ordered xs n → bindings 32 256 (holding f xs n) ≡ total xs n
unfolding sum_below
row_count f xs zero o = bindings_none 32 256 (holding f xs 0) (λ p x y. any_none _)
row_count f xs (suc n) o =
    let b = row xs n in
    let before = row_count f xs n (fewer xs (suc n) o n (omega arith)) in
    let with =
    bindings_with 256 (holding f xs n) (holding f xs (suc n)) b.provider b.requirer b.in_range.0 b.in_range.1 (has 32 b.ports)
    (λ p x y ne. held_suc p x y ∙ rw (other p x y ne) (or-false (held xs n p x y)))
    new
    (λ p. held_suc p b.provider b.requirer ∙ rw (new p, joins_self b p) refl)
    32 in
    let size = port_count b.ports b.in_range.2 in
    omega (arith, before, with, size)
  where
    held_suc : (p x y : ℕ) → held xs (suc n) p x y ≡ (held xs n p x y || joins (row xs n) p x y)
    held_suc p x y = any_suc (λ i. joins (row xs i) p x y) n

    other : (p x y : ℕ) → ((x ≡ (row xs n).provider) × (y ≡ (row xs n).requirer) → ⊥) → joins (row xs n) p x y ≡ false
    other p x y ne = refuted _ (λ e. let j = (joins_tells (row xs n) p x y).0 e in ne (sym j.provider, sym j.requirer))

    new : (p : ℕ) → held xs n p (row xs n).provider (row xs n).requirer ≡ false
    new p =
        refuted _ (λ e.
        let a = (held_tells xs n p (row xs n).provider (row xs n).requirer).0 e in
        let l = a.1 in
        let same = one_place xs (suc n) o a.0 n (omega arith) (omega arith) (joins_rank (row xs a.0) p _ _ a.2) in
        omega arith)

-- no row is empty, so there are no more rows than bindings
pub rows_most : (xs : List Row) (n : ℕ) → ((i : ℕ) → i < n → (row xs i).ports ≡ 0 → ⊥) → n ≤ total xs n
unfolding sum_below
rows_most xs zero filled = omega arith
rows_most xs (suc n) filled =
    let before = rows_most xs n (λ i l. filled i (omega arith)) in
    elim (cases_lt 0 (count_ones (row xs n).ports)) [
      | inl some ↦ omega arith
      | inr none ↦ absurd (filled n (omega arith) (zero_from_ones _ (omega arith)))
    ]

-- the place of a higher rank is no lower
pub places_rise : (xs : List Row) (n k m r e : ℕ) → Place xs n k r → Place xs n m e → k ≤ m → r ≤ e
places_rise xs n k m r e low high le =
    elim (cases_lt e r) [
      | inl lt ↦
          let b = low.before e lt in
          let a = high.after e (omega arith) (omega (arith, low.most)) in
          absurd (omega arith)
      | inr ge ↦ ge
    ]

-- the rows between two places are those of a provider
module _ (f : ℕ → Option Pair) (xs : List Row) (n z r e : ℕ) (o : Ordered xs n) (room : n ≤ length xs) (first : Place xs n (z * 256) r) (end : Place xs n ((z + 1) * 256) e) where
  abbrev part : List Row
  part = between r e xs

  long : length part ≡ e - r
  long = length-between xs r e (omega (arith, end.most))

  at : (i : ℕ) → i < length part → row part i ≡ row xs (r + i)
  at i l = get_or-between xs r e i blank (omega (arith, long))

  inside : (i : ℕ) → i < length part → r + i < n
  inside i l = omega (arith, long, end.most)

  of_provider : (i : ℕ) → i < length part → (row part i).provider ≡ z
  of_provider i l =
      let b = row xs (r + i) in
      let low = first.after (r + i) (omega arith) (inside i l) in
      let high = end.before (r + i) (omega (arith, long)) in
      ap (λ (b : Row). b.provider) (at i l) ∙ omega (arith, b.in_range, low, high)

  same_held : (p y : ℕ) → held part (length part) p z y ≡ held xs n p z y
  same_held p y = same_from_decides _ _ (Decides-like _ forth back (held_tells part (length part) p z y)) (held_tells xs n p z y)
    where
      forth : Found part (length part) p z y → Found xs n p z y
      forth a = (r + a.0, inside a.0 a.1, ap (λ b. joins b p z y) (sym (at a.0 a.1)) ∙ a.2)

      back : Found xs n p z y → Found part (length part) p z y
      back a =
          let b = row xs a.0 in
          let is : b.provider ≡ z = ((joins_tells b p z y).0 a.2).provider in
          let ge : r ≤ a.0 = elim (cases_lt a.0 r) [
            | inl lt ↦ let h = first.before a.0 lt in absurd (omega (arith, b.in_range))
            | inr ge ↦ ge
          ] in
          let lt : a.0 < e = elim (cases_lt a.0 e) [
            | inl lt ↦ lt
            | inr ge ↦ let h = end.after a.0 ge a.1 in absurd (omega (arith, b.in_range))
          ] in
          let l : a.0 - r < length part = omega (arith, long) in
          let k : r + (a.0 - r) ≡ a.0 = omega arith in
          (a.0 - r, l, ap (λ b. joins b p z y) (at (a.0 - r) l ∙ ap (row xs) k) ∙ a.2)

  rises : Ordered part (length part)
  rises i j a l = rw (at i (omega arith), at j l) (o (r + i) (r + j) (omega arith) (inside j l))

  pub rows_between : RowsFrom (holding f xs n) z part
  rows_between = record { provider = of_provider; held = same_held; ordered = rises }
