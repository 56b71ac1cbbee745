-- Packed sets of 32 bits by their bits: what two have, and what one has and another has not. Assumes nothing.
use Rattle.std.proofs.Common.{◌≡◌, ℕ, zero, suc, ◌-◌, ◌^◌, ◌<◌, min, false, not, ◌&&◌, eqb, sym, refl, ap, ◌∙◌, inl, inr, w32, arith}
use lib.Bits.{bit_and}
use Rattle.std.proofs.lemmas.Bool.{cases_lt, lt-ltb}
use Rattle.std.proofs.lemmas.Nat.Bits.{bit_at-lt, bit_at-zero, bit_at_and, bit_at_not}
use Rattle.std.specs.Int.{bit_at}
use Rattle.universe.specs.Sets.{has}
use Rattle.universe.proofs.PackedSets.{has_past}

-- a number in range is in a set exactly if its bit is one
has_bit : (w set p : ℕ) → p < w → has w set p ≡ eqb (bit_at set (w - 1 - p)) 1
unfolding has
has_bit w set p l = rw (lt-ltb p w l)

both : (x y : ℕ) → x < 2 → y < 2 → eqb (min x y) 1 ≡ (eqb x 1 && eqb y 1)
both zero zero l m = refl
both zero (suc zero) l m = refl
both zero (suc (suc y)) l m = absurd (omega arith)
both (suc zero) zero l m = refl
both (suc zero) (suc zero) l m = refl
both (suc zero) (suc (suc y)) l m = absurd (omega arith)
both (suc (suc x)) y l m = absurd (omega arith)

other : (x : ℕ) → x < 2 → eqb (1 - x) 1 ≡ not (eqb x 1)
other zero l = refl
other (suc zero) l = refl
other (suc (suc x)) l = absurd (omega arith)

pub has_and : (a b p : ℕ) → has 32 (bit_and a b) p ≡ (has 32 a p && has 32 b p)
has_and a b p =
    elim (cases_lt p 32) [
      | inl l ↦ rw (has_bit 32 (bit_and a b) p l, has_bit 32 a p l, has_bit 32 b p l, bit_at_and a b (32 - 1 - p))
          (both (bit_at a (32 - 1 - p)) (bit_at b (32 - 1 - p)) (bit_at-lt a (32 - 1 - p)) (bit_at-lt b (32 - 1 - p)))
      | inr g ↦ rw (has_past 32 (bit_and a b) p g, has_past 32 a p g)
    ]

-- nothing is in the set 0
pub has_none : (p : ℕ) → has 32 0 p ≡ false
has_none p =
    elim (cases_lt p 32) [
      | inl l ↦ rw (has_bit 32 0 p l, bit_at-zero (32 - 1 - p))
      | inr g ↦ has_past 32 0 p g
    ]

pub has_without : (a b p : ℕ) → b < 2 ^ 32 → has 32 (bit_and a (2 ^ 32 - 1 - b)) p ≡ (has 32 a p && not (has 32 b p))
has_without a b p small =
    elim (cases_lt p 32) [
      | inl l ↦
          let bit : bit_at (2 ^ 32 - 1 - b) (32 - 1 - p) ≡ 1 - bit_at b (32 - 1 - p) = bit_at_not w32 b (32 - 1 - p) small (omega arith) in
          has_and a (2 ^ 32 - 1 - b) p ∙ ap (λ t. has 32 a p && t)
          (has_bit 32 (2 ^ 32 - 1 - b) p l ∙ ap (λ n. eqb n 1) bit ∙ other (bit_at b (32 - 1 - p)) (bit_at-lt b (32 - 1 - p)) ∙ ap not (sym (has_bit 32 b p l)))
      | inr g ↦ has_and a (2 ^ 32 - 1 - b) p ∙ rw (has_past 32 a p g)
    ]
