-- Laws of packed sets, over the width.
use Rattle.std.proofs.Common.{◌≡◌, ℕ, zero, suc, ◌+◌, ◌-◌, ◌*◌, ◌/◌, ◌%◌, ◌^◌, ◌<◌, ◌≤◌, Bool, true, false, cond, ◌&&◌, eqb, ltb, leb, length, sym, refl, ◌∙◌, inl, inr, div-one, arith}
use native.Mathlib.Nat.{pow-succ'}
use lib.Bits.{bit_and}
use Rattle.std.proofs.lemmas.Nat.{and_mask, shr-shr, div-add-mod'}
use Rattle.std.proofs.lemmas.Bool.{lt-ltb, le-ltb, le-leb, lt-leb, cases_lt, and_parts, and_from, both_ways}
use Rattle.std.proofs.lemmas.List.FromFn.{length-range_with_len, get_or-range_with_len}
use Rattle.std.specs.Bool.{MatchBool}
use Rattle.std.specs.List.{range_with_len, AllWithin, HoldsAt}
use Rattle.model.proofs.Searches.{any_found, any_none_of}
use Rattle.universe.specs.Sets.{has, has_from, field}

-- the test by shift and mask
pub has_shift : (w set p : ℕ) → p < w → eqb (bit_and (set / 2 ^ (w - 1 - p)) 1) 1 ≡ has w set p
unfolding has
has_shift w set p h = rw (and_mask (set / 2 ^ (w - 1 - p)) 1, lt-ltb p w h)

-- a number from the width on is in no set
pub has_past : (w set p : ℕ) → w ≤ p → has w set p ≡ false
unfolding has
has_past w set p h = rw (le-ltb p w h)

-- the test of the width fails
pub ltb_past : (w set p : ℕ) → w ≤ p → ltb p w ≡ has w set p
ltb_past w set p h = le-ltb p w h ∙ sym (has_past w set p h)

-- what is in a set is below the width
pub has_below : (w set p : ℕ) → has w set p ≡ true → p < w
has_below w set p e = elim (cases_lt p w) [ inl l ↦ l | inr g ↦ absurd (both_ways (has w set p) (has_past w set p g) e) ]

-- the search from n on finds what is there
pub from_found : (w set n p : ℕ) → n ≤ p → true ≡ has w set p → true ≡ has_from w set n
unfolding has_from
from_found w set n p h e =
    sym (any_found (λ p. leb n p && has w set p) p w (has_below w set p (sym e)) (and_from _ _ (le-leb n p h) (sym e)))

-- where the search from n on finds nothing, all that is in the set is below n
pub below_from : (w set n p : ℕ) → has_from w set n ≡ false → has w set p ≡ true → p < n
below_from w set n p none e =
    elim (cases_lt p n) [ inl l ↦ l | inr g ↦ absurd (both_ways (has_from w set n) none (sym (from_found w set n p g (sym e)))) ]

-- and where all that is in the set is below n, it finds nothing
pub from_below : (w set n : ℕ) → ((p : ℕ) → has w set p ≡ true → p < n) → has_from w set n ≡ false
unfolding has_from
from_below w set n h = any_none_of (λ p. leb n p && has w set p) w (λ p _ e.
    let a = and_parts (leb n p) (has w set p) e in
    let l = h p a.1 in
    both_ways (leb n p) (lt-leb n p l) a.0)

-- the last number is the lowest bit
has_last : (w set : ℕ) → has (suc w) set w ≡ eqb (set % 2) 1
unfolding has
has_last w set = let z : suc w - 1 - w ≡ 0 = omega arith in rw (z, div-one set, lt-ltb w (suc w) (omega arith))

-- the others are in the rest of the field
has_rest : (w set p : ℕ) → p < w → has (suc w) set p ≡ has w (set / 2) p
unfolding has
has_rest w set p h =
    let k : suc w - 1 - p ≡ 1 + (w - 1 - p) = omega arith in
    rw (lt-ltb p (suc w) (omega arith), lt-ltb p w h, k, ← shr-shr set 1 (w - 1 - p))

abbrev bit : Bool → ℕ
bit b = cond b 1 0

bit_odd : (m : ℕ) (b : Bool) → eqb ((m * 2 + bit b) % 2) 1 ≡ b
bit_odd m true = let z : (m * 2 + 1) % 2 ≡ 1 = omega arith in rw z
bit_odd m false = let z : (m * 2 + 0) % 2 ≡ 0 = omega arith in rw z

bit_half : (m : ℕ) (b : Bool) → (m * 2 + bit b) / 2 ≡ m
bit_half m true = omega arith
bit_half m false = omega arith

bit_of : (r : ℕ) → r < 2 → bit (eqb r 1) ≡ r
bit_of zero h = refl
bit_of (suc zero) h = refl
bit_of (suc (suc r)) h = absurd (omega arith)

-- a field packs just what passes
pub has_field : (w : ℕ) (f : ℕ → Bool) (p : ℕ) → p < w → has w (field w f) p ≡ f p
unfolding field
has_field zero f p h = absurd (omega arith)
has_field (suc w) f p h = elim (cases_lt p w) [
  | inl l ↦ has_rest w (field w f * 2 + bit (f w)) p l ∙ (rw (bit_half (field w f) (f w)) (has_field w f p l))
  | inr g ↦ let e : p ≡ w = omega arith in rw (e, has_last w (field w f * 2 + bit (f w)), bit_odd (field w f) (f w))
]

-- tests that agree below the width give one field
pub field_same : (w : ℕ) (f g : ℕ → Bool) → ((p : ℕ) → p < w → f p ≡ g p) → field w f ≡ field w g
unfolding field
field_same zero f g h = refl
field_same (suc w) f g h = rw (field_same w f g (λ p l. h p (omega arith)), h w (omega arith))

-- a field is packed from what it holds
pub field_has : (w set : ℕ) → set < 2 ^ w → field w (has w set) ≡ set
unfolding field
field_has zero set h = omega arith
field_has (suc w) set h =
    let half : set / 2 < 2 ^ w = omega (arith, pow-succ' 2 w) in
    rw (has_last w set, bit_of (set % 2) (omega arith), field_same w (has (suc w) set) (has w (set / 2)) (has_rest w set), field_has w (set / 2) half)
    (div-add-mod' set 2)

-- what `any` tells of the numbers from n on below the width
pub from_any : (w set n : ℕ) (r : Bool) → MatchBool r ((k : ℕ) × (k < length (range_with_len n (w - n))) × HoldsAt (λ p. has w set p ≡ true) (range_with_len n (w - n)) k) (AllWithin (λ p. has w set p ≡ false) (range_with_len n (w - n)) 0 (length (range_with_len n (w - n)))) → r ≡ has_from w set n
from_any w set n true f =
    let k = f.0 in
    let l : k < w - n = omega (arith, f.1, length-range_with_len n (w - n)) in
    from_found w set n (n + k) (omega arith) (sym (rw (get_or-range_with_len n (w - n) k 0 l) at (f.2 0)))
from_any w set n false f = sym (from_below w set n (λ p e. elim (cases_lt p n) [
  | inl l ↦ l
  | inr h ↦
      let b = has_below w set p e in
      let k : n + (p - n) ≡ p = omega arith in
      let l : p - n < w - n = omega arith in
      absurd (both_ways (has w set p) (rw (get_or-range_with_len n (w - n) (p - n) 0 l, k) at (f (p - n) 0 (omega arith) (omega (arith, length-range_with_len n (w - n))))) e)
]))
