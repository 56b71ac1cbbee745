-- Packed sets by their bits: unions, single numbers, and one set within another. Assumes nothing.
use Rattle.std.proofs.Common.{◌≡◌, ℕ, zero, suc, ◌-◌, ◌^◌, ◌<◌, min, max, Bool, true, false, not, ◌&&◌, ◌||◌, eqb, refl, sym, ap, ◌∙◌, inl, inr, arith}
use lib.Bits.{bit_and, bit_or}
use Rattle.std.proofs.lemmas.Nat.{and_le_l}
use Rattle.std.specs.Int.{Width, bit_at, bit_not}
use mir.Val.{bits}
use Rattle.std.proofs.lemmas.Bool.{and_parts, and_from, both_ways, cases_Bool, cases_eq, cases_lt, eq-eqb, eqb-true, lt-ltb, ne_eqb, not-true}
use Rattle.std.proofs.lemmas.Nat.Bits.{bit_at-lt, bit_at-pow_other, bit_at-pow_same, bit_at-zero, bit_at_and, bit_at_not, bit_at_or, same_from_bits_below}
use Rattle.model.specs.Search.{any}
use Rattle.model.proofs.Searches.{any_found, any_some}
use Rattle.universe.specs.Sets.{has}
use Rattle.universe.proofs.PackedSets.{has_below, has_past}
use Rattle.closing.specs.Listing.{exceeds}

-- a number in range is in a set exactly if its bit is one
has_bit : (w set p : ℕ) → p < w → has w set p ≡ eqb (bit_at set (w - 1 - p)) 1
unfolding has
has_bit w set p l = rw (lt-ltb p w l)

either : (x y : ℕ) → x < 2 → y < 2 → eqb (max x y) 1 ≡ (eqb x 1 || eqb y 1)
either zero zero l m = refl
either zero (suc zero) l m = refl
either zero (suc (suc y)) l m = absurd (omega arith)
either (suc zero) zero l m = refl
either (suc zero) (suc zero) l m = refl
either (suc zero) (suc (suc y)) l m = absurd (omega arith)
either (suc (suc x)) y l m = absurd (omega arith)

both : (x y : ℕ) → x < 2 → y < 2 → eqb (min x y) 1 ≡ (eqb x 1 && eqb y 1)
both zero y l m = let none : min 0 y ≡ 0 = omega arith in rw none
both (suc zero) zero l m = refl
both (suc zero) (suc zero) l m = refl
both (suc zero) (suc (suc y)) l m = absurd (omega arith)
both (suc (suc x)) y l m = absurd (omega arith)

module _ (w : ℕ) where
  pub has_or : (a b p : ℕ) → has w (bit_or a b) p ≡ (has w a p || has w b p)
  has_or a b p =
      elim (cases_lt p w) [
        | inl l ↦ rw (has_bit w (bit_or a b) p l, has_bit w a p l, has_bit w b p l, bit_at_or a b (w - 1 - p))
            (either (bit_at a (w - 1 - p)) (bit_at b (w - 1 - p)) (bit_at-lt a (w - 1 - p)) (bit_at-lt b (w - 1 - p)))
        | inr g ↦ rw (has_past w (bit_or a b) p g, has_past w a p g, has_past w b p g)
      ]

  pub has_and : (a b p : ℕ) → has w (bit_and a b) p ≡ (has w a p && has w b p)
  has_and a b p =
      elim (cases_lt p w) [
        | inl l ↦ rw (has_bit w (bit_and a b) p l, has_bit w a p l, has_bit w b p l, bit_at_and a b (w - 1 - p))
            (both (bit_at a (w - 1 - p)) (bit_at b (w - 1 - p)) (bit_at-lt a (w - 1 - p)) (bit_at-lt b (w - 1 - p)))
        | inr g ↦ rw (has_past w (bit_and a b) p g, has_past w a p g)
      ]

  pub has_none : (p : ℕ) → has w 0 p ≡ false
  has_none p =
      elim (cases_lt p w) [
        | inl l ↦ rw (has_bit w 0 p l, bit_at-zero (w - 1 - p))
        | inr g ↦ has_past w 0 p g
      ]

  pub has_single : (q p : ℕ) → q < w → has w (2 ^ (w - 1 - q)) p ≡ eqb p q
  has_single q p in_range =
      elim (cases_eq p q) [
        | inl e ↦ rw (e, has_bit w (2 ^ (w - 1 - q)) q in_range, bit_at-pow_same (w - 1 - q), eq-eqb q q refl)
        | inr ne ↦ rw (ne_eqb p q ne) (elim (cases_lt p w) [
          | inl l ↦ rw (has_bit w (2 ^ (w - 1 - q)) p l, bit_at-pow_other (w - 1 - q) (w - 1 - p) (λ e. ne (omega arith)))
          | inr g ↦ has_past w (2 ^ (w - 1 - q)) p g
        ])
      ]

  -- what the one set has, the other has
  abbrev pub Within : ℕ → ℕ → Type 0
  Within a b = (p : ℕ) → has w a p ≡ true → has w b p ≡ true

  bit_within : (a b : ℕ) → Within a b → (i : ℕ) → i < w → bit_at (bit_and a b) i ≡ bit_at a i
  bit_within a b h i l =
      bit_at_and a b i ∙ by (bit_at a i) refl (bit_at-lt a i)
    where
      back : w - 1 - (w - 1 - i) ≡ i
      back = omega arith

      by : (x : ℕ) → bit_at a i ≡ x → x < 2 → min (bit_at a i) (bit_at b i) ≡ bit_at a i
      by zero e k = rw e (omega arith)
      by (suc zero) e k =
          let low : w - 1 - i < w = omega arith in
          let in_a : has w a (w - 1 - i) ≡ true = has_bit w a (w - 1 - i) low ∙ eq-eqb _ 1 (ap (bit_at a) back ∙ e) in
          let in_b : bit_at b i ≡ 1 = ap (bit_at b) (sym back) ∙ eqb-true _ 1 (sym (has_bit w b (w - 1 - i) low) ∙ h (w - 1 - i) in_a) in
          rw (e, in_b)
      by (suc (suc x)) e k = absurd (omega arith)

  -- a set within another is what both have
  pub within_and : (a b : ℕ) → a < 2 ^ w → Within a b → bit_and a b ≡ a
  within_and a b small h = same_from_bits_below w (bit_and a b) a (omega (arith, and_le_l a b)) small (bit_within a b h)

  pub and_within : (a b : ℕ) → bit_and a b ≡ a → Within a b
  and_within a b e p in_a =
      let l = has_below w a p in_a in
      let bit : bit_at a (w - 1 - p) ≡ 1 = eqb-true _ 1 (sym (has_bit w a p l) ∙ in_a) in
      let both : min (bit_at a (w - 1 - p)) (bit_at b (w - 1 - p)) ≡ 1 = sym (bit_at_and a b (w - 1 - p)) ∙ ap (λ n. bit_at n (w - 1 - p)) e ∙ bit in
      let small = bit_at-lt b (w - 1 - p) in
      has_bit w b p l ∙ eq-eqb (bit_at b (w - 1 - p)) 1 (omega arith)

-- what is in one set and not in another
module _ (w : Width) (a b : ℕ) (small : b < 2 ^ bits w) where
  pub has_and_not : (p : ℕ) → has (bits w) (bit_and a (bit_not w b)) p ≡ (has (bits w) a p && not (has (bits w) b p))
  has_and_not p =
      elim (cases_lt p (bits w)) [
        | inl l ↦
            let low : bits w - 1 - p < bits w = omega arith in
            rw (
              has_bit (bits w) (bit_and a (bit_not w b)) p l,
              has_bit (bits w) a p l,
              has_bit (bits w) b p l,
              bit_at_and a (bit_not w b) (bits w - 1 - p),
              bit_at_not w b (bits w - 1 - p) small low,
            )
            (without (bit_at a (bits w - 1 - p)) (bit_at b (bits w - 1 - p)) (bit_at-lt a (bits w - 1 - p)) (bit_at-lt b (bits w - 1 - p)))
        | inr g ↦ rw (has_past (bits w) (bit_and a (bit_not w b)) p g, has_past (bits w) a p g)
      ]
    where
      without : (x y : ℕ) → x < 2 → y < 2 → eqb (min x (1 - y)) 1 ≡ (eqb x 1 && not (eqb y 1))
      without zero y l m = let none : min 0 (1 - y) ≡ 0 = omega arith in rw none
      without (suc zero) zero l m = refl
      without (suc zero) (suc zero) l m = refl
      without (suc zero) (suc (suc y)) l m = absurd (omega arith)
      without (suc (suc x)) y l m = absurd (omega arith)

-- a set within another exceeds it nowhere
pub exceeds_masked : (a b : ℕ) → a < 2 ^ 32 → not (eqb (bit_and a b) a) ≡ exceeds a b
unfolding exceeds
exceeds_masked a b small =
    elim (cases_Bool (any (λ p. has 32 a p && not (has 32 b p)) 32)) [
      | inl some ↦
          let s = any_some (λ p. has 32 a p && not (has 32 b p)) 32 some in
          let w = and_parts (has 32 a s.0) (not (has 32 b s.0)) s.2 in
          rw (some, ne_eqb (bit_and a b) a (λ e. both_ways (has 32 b s.0) (not-true (has 32 b s.0) w.1) (and_within 32 a b e s.0 w.0)))
      | inr none ↦
          rw (
            none,
            eq-eqb (bit_and a b) a (within_and 32 a b small (λ p in_a.
                by (has 32 b p) refl (λ out. both_ways (any (λ p. has 32 a p && not (has 32 b p)) 32) none
                (any_found _ p 32 (has_below 32 a p in_a) (and_from (has 32 a p) (not (has 32 b p)) in_a (ap not out)))))),
          )
    ]
  where
    by : (b : Bool) {c : Bool} → c ≡ b → (c ≡ false → ⊥) → c ≡ true
    by true e f = e
    by false e f = absurd (f e)
