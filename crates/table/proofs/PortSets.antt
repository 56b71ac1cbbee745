-- Packed sets of ports by their bits, and how many ports they have. Assumes nothing.
use Rattle.std.proofs.Common.{◌≡◌, ℕ, zero, suc, ◌+◌, ◌-◌, ◌*◌, ◌/◌, ◌%◌, ◌^◌, ◌<◌, ◌≤◌, min, max, Bool, true, false, not, ◌&&◌, ◌||◌, eqb, ◌≢◌, count_ones, bit_and, bit_or, bit_xor, refl, sym, ap, ◌∙◌, inl, inr, div-one, arith}
use native.Mathlib.Nat.{pow-succ'}
use lib.Count.{ones_step}
use Rattle.std.specs.Int.{bit_at, bit_not, trailing_zeros, w32}
use Rattle.std.proofs.lemmas.Nat.{one_shl, ones-le, shr-shr, zero_from_ones}
use Rattle.std.proofs.lemmas.Nat.Bits.{bit_at-lt, bit_at-pow_other, bit_at-pow_same, bit_at_and, bit_at-trailing_zeros, bit_at_not, bit_at_or, bit_at_xor}
use Rattle.std.proofs.lemmas.Bool.{cases_Bool, cases_eq, cases_lt, eq-eqb, lt-ltb, ne_eqb}
use Rattle.model.specs.Search.{any, one, sum_below}
use Rattle.model.proofs.Searches.{any_found, any_some, refuted}
use Rattle.model.proofs.Sums.{sum_none, sum_same_below}
use Rattle.universe.specs.Sets.{has}
use Rattle.universe.proofs.PackedSets.{has_past}
use Rattle.universe.proofs.Checked.{has_zero}

-- a number in range is in a set exactly if its bit is one
has_bit : (set p : ℕ) → p < 32 → has 32 set p ≡ eqb (bit_at set (31 - p)) 1
unfolding has
has_bit set p l = rw (lt-ltb p 32 l)

either : (x y : ℕ) → x < 2 → y < 2 → eqb (max x y) 1 ≡ (eqb x 1 || eqb y 1)
either zero zero l m = refl
either zero (suc zero) l m = refl
either zero (suc (suc y)) l m = absurd (omega arith)
either (suc zero) zero l m = refl
either (suc zero) (suc zero) l m = refl
either (suc zero) (suc (suc y)) l m = absurd (omega arith)
either (suc (suc x)) y l m = absurd (omega arith)

both : (x y : ℕ) → x < 2 → y < 2 → eqb (min x y) 1 ≡ (eqb x 1 && eqb y 1)
both zero zero l m = refl
both zero (suc zero) l m = refl
both zero (suc (suc y)) l m = absurd (omega arith)
both (suc zero) zero l m = refl
both (suc zero) (suc zero) l m = refl
both (suc zero) (suc (suc y)) l m = absurd (omega arith)
both (suc (suc x)) y l m = absurd (omega arith)

other : (x : ℕ) → x < 2 → eqb (1 - x) 1 ≡ not (eqb x 1)
other zero l = refl
other (suc zero) l = refl
other (suc (suc x)) l = absurd (omega arith)

-- a port is in a set by a law of its bit, or out of range
by_bit : (set p : ℕ) (b : Bool) → (p < 32 → eqb (bit_at set (31 - p)) 1 ≡ b) → (32 ≤ p → false ≡ b) → has 32 set p ≡ b
by_bit set p b within past =
    elim (cases_lt p 32) [
      | inl l ↦ has_bit set p l ∙ within l
      | inr g ↦ has_past 32 set p g ∙ past g
    ]

pub has_or : (a b p : ℕ) → has 32 (bit_or a b) p ≡ (has 32 a p || has 32 b p)
has_or a b p =
    by_bit (bit_or a b) p _
    (λ l. rw (has_bit a p l, has_bit b p l, bit_at_or a b (31 - p)) (either (bit_at a (31 - p)) (bit_at b (31 - p)) (bit_at-lt a (31 - p)) (bit_at-lt b (31 - p))))
    (λ g. rw (has_past 32 a p g, has_past 32 b p g))

pub has_and : (a b p : ℕ) → has 32 (bit_and a b) p ≡ (has 32 a p && has 32 b p)
has_and a b p =
    by_bit (bit_and a b) p _
    (λ l. rw (has_bit a p l, has_bit b p l, bit_at_and a b (31 - p)) (both (bit_at a (31 - p)) (bit_at b (31 - p)) (bit_at-lt a (31 - p)) (bit_at-lt b (31 - p))))
    (λ g. rw (has_past 32 a p g) refl)

pub has_and_not : (a b p : ℕ) → b < 2 ^ 32 → has 32 (bit_and a (bit_not w32 b)) p ≡ (has 32 a p && not (has 32 b p))
has_and_not a b p small =
    has_and a (bit_not w32 b) p ∙ elim (cases_lt p 32) [
      | inl l ↦
          let low : 31 - p < 32 = omega arith in
          rw (has_bit (bit_not w32 b) p l, has_bit b p l, bit_at_not w32 b (31 - p) small low, other (bit_at b (31 - p)) (bit_at-lt b (31 - p)))
      | inr g ↦ rw (has_past 32 a p g) refl
    ]

-- the set of one port
pub has_single : (q p : ℕ) → q < 32 → has 32 (1 * 2 ^ (31 - q) % 2 ^ 32) p ≡ eqb q p
has_single q p low =
    rw (one_shl (31 - q) 32 (omega arith))
    (by_bit (2 ^ (31 - q)) p (eqb q p)
    (λ l. elim (cases_eq q p) [
      | inl e ↦ rw (e, bit_at-pow_same (31 - p), eq-eqb p p refl)
      | inr ne ↦ rw (ne_eqb q p ne, bit_at-pow_other (31 - q) (31 - p) (λ e. ne (omega arith)))
    ])
    (λ g. sym (ne_eqb q p (λ e. omega arith))))

-- what one of two sets has and the other has not
pub has_xor : (a b p : ℕ) → has 32 (bit_xor a b) p ≡ false → has 32 a p ≡ has 32 b p
has_xor a b p e =
    elim (cases_lt p 32) [
      | inl l ↦
          rw (has_bit a p l, has_bit b p l)
          (alike (bit_at a (31 - p)) (bit_at b (31 - p)) (bit_at-lt a (31 - p)) (bit_at-lt b (31 - p)) (rw (has_bit (bit_xor a b) p l, bit_at_xor a b (31 - p)) at e))
      | inr g ↦ rw (has_past 32 a p g, has_past 32 b p g) refl
    ]
  where
    alike : (x y : ℕ) → x < 2 → y < 2 → eqb ((x + y) % 2) 1 ≡ false → eqb x 1 ≡ eqb y 1
    alike zero zero l m k = refl
    alike zero (suc zero) l m k = sym k
    alike zero (suc (suc y)) l m k = absurd (omega arith)
    alike (suc zero) zero l m k = k
    alike (suc zero) (suc zero) l m k = refl
    alike (suc zero) (suc (suc y)) l m k = absurd (omega arith)
    alike (suc (suc x)) y l m k = absurd (omega arith)

-- the lowest bit that is one is that of the last port
pub has_last_port : (set : ℕ) → set ≢ 0 → set < 2 ^ 32 → has 32 set (31 - trailing_zeros w32 set) ≡ true
has_last_port set ne small =
    let some : 0 < set = elim (cases_lt 0 set) [ inl l ↦ l | inr g ↦ absurd (ne (omega arith)) ] in
    let t = bit_at-trailing_zeros w32 set some small in
    let low : trailing_zeros w32 set < 32 = t.0 in
    let back : 31 - (31 - trailing_zeros w32 set) ≡ trailing_zeros w32 set = omega arith in
    has_bit set (31 - trailing_zeros w32 set) (omega arith) ∙ eq-eqb _ 1 (ap (bit_at set) back ∙ t.1)

-- what has a port is not empty
pub not_empty : (set p : ℕ) → has 32 set p ≡ true → set ≢ 0
not_empty set p e none = let z = rw (none, has_zero 32 p) at e in absurd (let k : ◌≡◌ {A = ℕ} 0 1 = cc in omega arith)

module _ (w set : ℕ) where
  -- the last number is the lowest bit
  has_last : has (suc w) set w ≡ eqb (set % 2) 1
  unfolding has
  has_last = let z : suc w - 1 - w ≡ 0 = omega arith in rw (z, div-one set, lt-ltb w (suc w) (omega arith))

  -- the others are in the rest of the field
  has_rest : (p : ℕ) → p < w → has w (set / 2) p ≡ has (suc w) set p
  unfolding has
  has_rest p h =
      let k : suc w - 1 - p ≡ 1 + (w - 1 - p) = omega arith in
      rw (lt-ltb p (suc w) (omega arith), lt-ltb p w h, k, ← shr-shr set 1 (w - 1 - p))

-- a set has as many numbers as its field has ones
ones_has : (w set : ℕ) → set < 2 ^ w → sum_below (λ p. one (has w set p)) w ≡ count_ones set
unfolding sum_below
ones_has zero set h = let n = ones-le 0 set h in omega arith
ones_has (suc w) set h =
    let half : set / 2 < 2 ^ w = omega (arith, pow-succ' 2 w) in
    let before = ones_has w (set / 2) half in
    let rest = sum_same_below (λ p. one (has (suc w) set p)) (λ p. one (has w (set / 2) p)) w (λ p l. ap one (has_rest w set p l)) in
    let last : one (has (suc w) set w) ≡ set % 2 = ap one (has_last w set) ∙ bit_of (set % 2) (omega arith) in
    let s = ones_step set in
    omega (arith, before, rest, last, s)
  where
    bit_of : (r : ℕ) → r < 2 → one (eqb r 1) ≡ r
    bit_of zero h = refl
    bit_of (suc zero) h = refl
    bit_of (suc (suc r)) h = absurd (omega arith)

pub port_count : (set : ℕ) → set < 2 ^ 32 → sum_below (λ p. one (has 32 set p)) 32 ≡ count_ones set
port_count set small = ones_has 32 set small

-- some port is in a set that is not empty
pub some_port : (set : ℕ) → set < 2 ^ 32 → set ≢ 0 → (p : ℕ) × (p < 32) × (has 32 set p ≡ true)
some_port set small ne =
    elim (cases_Bool (any (has 32 set) 32)) [
      | inl some ↦ any_some (has 32 set) 32 some
      | inr none ↦
          let out : (p : ℕ) → has 32 set p ≡ false = λ p. elim (cases_lt p 32) [
            | inl l ↦ refuted (has 32 set p) (λ e. let f = any_found (has 32 set) p 32 l e in let z = sym none ∙ f in absurd (let k : ◌≡◌ {A = ℕ} 0 1 = cc in omega arith))
            | inr g ↦ has_past 32 set p g
          ] in
          absurd (ne (zero_from_ones set (sym (port_count set small) ∙ sum_none (λ p. one (has 32 set p)) 32 (λ p. ap one (out p)))))
    ]
