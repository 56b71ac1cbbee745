-- How sums over numbers move. Assumes nothing.
use Rattle.std.proofs.Common.{◌≡◌, ℕ, zero, suc, ◌+◌, ◌<◌, ◌≤◌, Bool, true, false, ◌&&◌, ◌≢◌, refl, inl, inr, arith}
use Rattle.std.proofs.lemmas.Bool.{cases_lt}
use Rattle.model.specs.Search.{sum_below, one}

module _ (f g : ℕ → ℕ) where
  -- equal terms below n, equal sums
  pub sum_same_below : (n : ℕ) → ((y : ℕ) → y < n → g y ≡ f y) → sum_below g n ≡ sum_below f n
  unfolding sum_below
  sum_same_below zero h = refl
  sum_same_below (suc n) h =
      let before = sum_same_below n (λ y l. h y (omega arith)) in
      let here = h n (omega arith) in
      omega arith

  pub sum_same : (n : ℕ) → ((y : ℕ) → g y ≡ f y) → sum_below g n ≡ sum_below f n
  sum_same n h = sum_same_below n (λ y l. h y)

  -- one term is one more, and the others stay
  pub sum_more : (k n : ℕ) → k < n → ((y : ℕ) → y ≢ k → g y ≡ f y) → g k ≡ f k + 1 → sum_below g n ≡ sum_below f n + 1
  unfolding sum_below
  sum_more k zero l h e = absurd (omega arith)
  sum_more k (suc n) l h e =
      elim (cases_lt k n) [
        | inl lt ↦ let before = sum_more k n lt h e in let here = h n (omega arith) in omega arith
        | inr ge ↦
            let same : k ≡ n = omega arith in
            let before = sum_same_below n (λ y m. h y (omega arith)) in
            let at : g n ≡ f n + 1 = rw same at e in
            omega arith
      ]

  -- one term moves, and the sum by as much
  pub sum_moved : (k n : ℕ) → k < n → ((y : ℕ) → y ≢ k → g y ≡ f y) → sum_below g n + f k ≡ sum_below f n + g k
  unfolding sum_below
  sum_moved k zero l h = absurd (omega arith)
  sum_moved k (suc n) l h =
      elim (cases_lt k n) [
        | inl lt ↦ let before = sum_moved k n lt h in let here = h n (omega arith) in omega arith
        | inr ge ↦
            let same : k ≡ n = omega arith in
            let before = sum_same_below n (λ y m. h y (omega arith)) in
            rw same (omega (arith, before))
      ]

  -- no term is more, nor is the sum
  pub sum_le : (n : ℕ) → ((y : ℕ) → g y ≤ f y) → sum_below g n ≤ sum_below f n
  unfolding sum_below
  sum_le zero h = omega arith
  sum_le (suc n) h = let before = sum_le n h in let here = h n in omega arith

pub sum_none : (f : ℕ → ℕ) (n : ℕ) → ((y : ℕ) → f y ≡ 0) → sum_below f n ≡ 0
unfolding sum_below
sum_none f zero h = refl
sum_none f (suc n) h = let before = sum_none f n h in let here = h n in omega arith

-- at most n numbers below n pass
pub sum_most : (f : ℕ → Bool) (n : ℕ) → sum_below (λ y. one (f y)) n ≤ n
unfolding sum_below
sum_most f zero = omega arith
sum_most f (suc n) = let before = sum_most f n in let here = one_most (f n) in omega arith
  where
    one_most : (b : Bool) → one b ≤ 1
    one_most true = omega arith
    one_most false = omega arith

pub one_less : (a b : Bool) → one (a && b) ≤ one a
one_less true true = omega arith
one_less true false = omega arith
one_less false b = omega arith

-- no term is more than the sum
pub sum_above : (f : ℕ → ℕ) (k n : ℕ) → k < n → f k ≤ sum_below f n
unfolding sum_below
sum_above f k zero l = absurd (omega arith)
sum_above f k (suc n) l =
    elim (cases_lt k n) [
      | inl lt ↦ let before = sum_above f k n lt in omega arith
      | inr ge ↦ let same : k ≡ n = omega arith in rw same (omega arith)
    ]
