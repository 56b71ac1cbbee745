-- Sums whose terms are few and small, and how many bindings are added at most. Assumes nothing.
use Rattle.std.proofs.Common.{◌≡◌, ℕ, zero, suc, ◌+◌, ◌-◌, ◌*◌, ◌<◌, ◌≤◌, min, Bool, true, false, ◌⊎◌, mul-le-mul_left, mul-suc, refl, ap, inl, inr, arith}
use mathlib.Core.Bool.{false≢true}
use Rattle.std.proofs.lemmas.Bool.{cases_lt}
use Rattle.model.specs.Config.{Config}
use Rattle.model.specs.Counts.{bindings}
use Rattle.model.specs.Search.{one, sum_below}
use Rattle.model.proofs.Searches.{refuted}
use Rattle.model.proofs.Sums.{sum_none}

-- no term is more than those of two other sums together, nor is the sum
sum_plus : (f g h : ℕ → ℕ) (n : ℕ) → ((y : ℕ) → f y ≤ g y + h y) → sum_below f n ≤ sum_below g n + sum_below h n
unfolding sum_below
sum_plus f g h zero e = omega arith
sum_plus f g h (suc n) e = let before = sum_plus f g h n e in let here = e n in omega arith

-- no term is more than c, and only the k terms from a on are not 0
module _ (f : ℕ → ℕ) (c a k : ℕ) (most : (y : ℕ) → f y ≤ c) (none : (y : ℕ) → (a ≤ y → y < a + k → ⊥) → f y ≡ 0) where
  -- min (n - a) k terms below n are not 0 at most
  sum_upto : (n : ℕ) → sum_below f n ≤ c * min (n - a) k
  unfolding sum_below
  sum_upto zero = omega arith
  sum_upto (suc n) =
      let before = sum_upto n in
      let outside : (f n ≡ 0) → min (suc n - a) k ≡ min (n - a) k → sum_below f n + f n ≤ c * min (suc n - a) k =
      λ e same. rw same (omega arith) in
      elim (cases_lt n a) [
        | inl lt ↦ outside (none n (λ l h. absurd (omega arith))) (omega arith)
        | inr ge ↦ elim (cases_lt n (a + k)) [
          | inl lt ↦
              let one : min (suc n - a) k ≡ suc (min (n - a) k) = omega arith in
              let here = most n in
              rw one (omega (arith, mul-suc c (min (n - a) k)))
          | inr past ↦ outside (none n (λ l h. absurd (omega arith))) (omega arith)
        ]
      ]

  sum_within : (n : ℕ) → sum_below f n ≤ c * k
  sum_within n =
      let before = sum_upto n in
      let low : min (n - a) k ≤ k = omega arith in
      omega (arith, mul-le-mul_left c low)

one_most : (b : Bool) → one b ≤ 1
one_most true = omega arith
one_most false = omega arith

pub one_either : (a b c : Bool) → (a ≡ true → (b ≡ true) ⊎ (c ≡ true)) → one a ≤ one b + one c
one_either true true c h = omega arith
one_either true false true h = omega arith
one_either true false false h = elim (h refl) [ inl e ↦ absurd (false≢true e) | inr e ↦ absurd (false≢true e) ]
one_either false b c h = omega arith

-- each binding of c is one of d's or new; the new ones are on ports below j, from one provider for each port, to the k
-- requirers from a on
module _ (c d : Config) (f : ℕ → ℕ) (j a k : ℕ) (new : ℕ → ℕ → ℕ → Bool)
    (either : (p x y : ℕ) → c.bound p x y ≡ true → (d.bound p x y ≡ true) ⊎ (new p x y ≡ true))
    (few : (p x y : ℕ) → new p x y ≡ true → (p < j) × (x ≡ f p) × (a ≤ y) × (y < a + k)) where
  none_new : (p x y : ℕ) → (p < j → x ≡ f p → a ≤ y → y < a + k → ⊥) → one (new p x y) ≡ 0
  none_new p x y out = ap one (refuted (new p x y) (λ e. let h = few p x y e in out h.0 h.1 h.2 h.3))

  -- how many new ones there are on a port from a provider, and on a port, among the requirers and providers below n
  abbrev from : ℕ → ℕ → ℕ → ℕ
  from n p x = sum_below (λ y. one (new p x y)) n

  abbrev on : ℕ → ℕ → ℕ
  on n p = sum_below (from n p) n

  from_few : (n p x : ℕ) → from n p x ≤ k
  from_few n p x =
      let most = sum_within (λ y. one (new p x y)) 1 a k (λ y. one_most (new p x y))
      (λ y out. none_new p x y (λ lp lx. out)) n in
      omega arith

  on_few : (n p : ℕ) → on n p ≤ k
  on_few n p =
      let most = sum_within (from n p) k (f p) 1 (from_few n p)
      (λ x out. sum_none _ n (λ y. none_new p x y (λ lp lx ly hy. out (omega arith) (omega arith)))) n in
      omega arith

  on_none : (n p : ℕ) → (p < j → ⊥) → on n p ≡ 0
  on_none n p out = sum_none _ n (λ x. sum_none _ n (λ y. none_new p x y (λ l lx ly hy. out l)))

  -- so c has at most k * j bindings more than d
  pub bindings_new : (m n : ℕ) → bindings m n c ≤ bindings m n d + k * j
  unfolding bindings
  bindings_new m n =
      let most = sum_within (on n) k 0 j (on_few n) (λ p out. on_none n p (λ l. out (omega arith) (omega arith))) m in
      let both = sum_plus _ (λ p. sum_below (λ x. sum_below (λ y. one (d.bound p x y)) n) n) (on n) m
      (λ p. sum_plus _ _ (from n p) n (λ x. sum_plus _ _ _ n (λ y. one_either _ _ _ (either p x y)))) in
      omega arith
