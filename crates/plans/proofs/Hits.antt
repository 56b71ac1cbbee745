-- How many numbers are values of a function at the numbers below a bound. Assumes nothing.
use Rattle.std.proofs.Common.{◌≡◌, ℕ, zero, suc, ◌+◌, ◌<◌, ◌≤◌, Bool, true, eqb, ◌⊎◌, refl, sym, inl, inr, arith}
use Rattle.std.proofs.lemmas.Bool.{cases_lt, eq-eqb, eqb-true, ne_eqb, or_cases}
use Rattle.model.specs.Search.{any, sum_below, one}
use Rattle.model.proofs.Searches.{any_found, any_some}
use Rattle.plans.proofs.Counts.{one_either}
use Rattle.model.proofs.Sums.{sum_more, sum_none, sum_same_below}

-- a number below n that passes the first of two tests or the second counts for one of them
sum_either : (f g h : ℕ → Bool) (n : ℕ) → ((y : ℕ) → y < n → f y ≡ true → (g y ≡ true) ⊎ (h y ≡ true)) →
    sum_below (λ y. one (f y)) n ≤ sum_below (λ y. one (g y)) n + sum_below (λ y. one (h y)) n
unfolding sum_below
sum_either f g h zero e = omega arith
sum_either f g h (suc n) e =
    let before = sum_either f g h n (λ y l. e y (omega arith)) in
    let here = one_either (f n) (g n) (h n) (e n (omega arith)) in
    omega arith

-- one number counts once at most
sum_single : (k n : ℕ) → sum_below (λ y. one (eqb k y)) n ≤ 1
sum_single k n =
    let none = sum_none (λ y. 0) n (λ y. refl) in
    elim (cases_lt k n) [
      | inl lt ↦
          let more =
          sum_more (λ y. 0) (λ y. one (eqb k y)) k n lt
          (λ y ne. rw (ne_eqb k y (λ e. ne (sym e)))) (rw (eq-eqb k k refl)) in
          omega arith
      | inr ge ↦
          let same = sum_same_below (λ y. 0) (λ y. one (eqb k y)) n (λ y l. rw (ne_eqb k y (λ e. omega arith))) in
          omega arith
    ]

sum_ones : (n : ℕ) → sum_below (λ y. 1) n ≡ n
unfolding sum_below
sum_ones zero = refl
sum_ones (suc n) = let before = sum_ones n in omega arith

-- the number y is a value of s at a number below m
abbrev pub hit : (ℕ → ℕ) → ℕ → ℕ → Bool
hit s m y = any (λ i. eqb (s i) y) m

pub hit_at : (s : ℕ → ℕ) (m y i : ℕ) → i < m → s i ≡ y → hit s m y ≡ true
hit_at s m y i low e = any_found _ i m low (eq-eqb (s i) y e)

pub hit_some : (s : ℕ → ℕ) (m y : ℕ) → hit s m y ≡ true → (i : ℕ) × (i < m) × (s i ≡ y)
hit_some s m y e = let r = any_some _ m e in (r.0, r.1, eqb-true (s r.0) y r.2)

-- a function has no more than m values at the numbers below m
pub hits_few : (s : ℕ → ℕ) (m n : ℕ) → sum_below (λ y. one (hit s m y)) n ≤ m
unfolding any
hits_few s zero n = let none = sum_none (λ y. 0) n (λ y. refl) in omega arith
hits_few s (suc m) n =
    let before = hits_few s m n in
    let single = sum_single (s m) n in
    let either = sum_either (hit s (suc m)) (hit s m) (eqb (s m)) n (λ y l e. or_cases (hit s m y) (eqb (s m) y) e) in
    omega arith

-- n numbers that are all values of one of two functions are no more than there are places
pub hits_both : (s t : ℕ → ℕ) (m k n : ℕ) → ((y : ℕ) → y < n → (hit s m y ≡ true) ⊎ (hit t k y ≡ true)) → n ≤ m + k
hits_both s t m k n e =
    let all = sum_ones n in
    let either = sum_either (λ y. true) (hit s m) (hit t k) n (λ y l r. e y l) in
    let few = hits_few s m n in
    let others = hits_few t k n in
    omega arith
