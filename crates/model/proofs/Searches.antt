-- What a search among numbers tells. Assumes nothing.
use Rattle.std.proofs.Common.{◌≡◌, ℕ, zero, suc, ◌+◌, ◌<◌, Bool, true, false, ◌⊎◌, Some, None, Option, refl, ap, ◌∙◌, inl, inr, add-one, arith}
use mathlib.Core.Bool.{false≢true}
use Rattle.std.proofs.lemmas.Bool.{cases_lt, or_cases, or_left, or_right}
use Rattle.model.specs.Search.{any, first_there, find_first}

-- a test that cannot pass
pub refuted : (b : Bool) → (b ≡ true → ⊥) → b ≡ false
refuted true f = absurd (f refl)
refuted false f = refl

-- what passes below n is found
pub any_found : (f : ℕ → Bool) (i n : ℕ) → i < n → f i ≡ true → any f n ≡ true
unfolding any
any_found f i zero h e = absurd (omega arith)
any_found f i (suc n) h e =
    elim (cases_lt i n) [
      | inl lt ↦ or_left (any f n) (f n) (any_found f i n lt e)
      | inr ge ↦ let same : n ≡ i = omega arith in or_right (any f n) (f n) (ap f same ∙ e)
    ]

-- what a search found
pub any_some : (f : ℕ → Bool) (n : ℕ) → any f n ≡ true → (i : ℕ) × (i < n) × (f i ≡ true)
unfolding any
any_some f zero e = absurd (false≢true e)
any_some f (suc n) e =
    elim (or_cases (any f n) (f n) e) [
      | inl p ↦ let r = any_some f n p in let l = r.1 in (r.0, omega arith, r.2)
      | inr q ↦ (n, omega arith, q)
    ]

-- where nothing passes, nothing is found
pub any_none_of : (f : ℕ → Bool) (n : ℕ) → ((i : ℕ) → i < n → f i ≡ true → ⊥) → any f n ≡ false
any_none_of f n h = refuted (any f n) (λ e. let r = any_some f n e in h r.0 r.1 r.2)

-- a search begins with nothing found
pub any_none : (f : ℕ → Bool) → any f 0 ≡ false
unfolding any
any_none f = refl

-- neither is there
neither : {X : Type 0} (o q : Option X) → first_there o q ≡ None → (o ≡ None) × (q ≡ None)
neither None q e = (refl, e)
neither (Some a) q e = absurd (let z : ◌≡◌ {A = ℕ} 0 1 = cc in omega arith)

-- which of two it is
either : {X : Type 0} (o q : Option X) (a : X) → first_there o q ≡ Some a → (o ≡ Some a) ⊎ ((o ≡ None) × (q ≡ Some a))
either None q a e = inr (refl, e)
either (Some b) q a e = inl e

-- a search for the first begins with nothing found
pub first_none : {X : Type 0} (f : ℕ → Option X) → find_first f 0 ≡ None
unfolding find_first
first_none f = refl

-- and goes on while nothing is found
pub first_more : {X : Type 0} (f : ℕ → Option X) (i : ℕ) → find_first f i ≡ None → f i ≡ None → find_first f (i + 1) ≡ None
unfolding find_first
first_more f i p q = rw (add-one, p) q

-- what is found first is found
pub first_found : {X : Type 0} (f : ℕ → Option X) (i n : ℕ) (a : X) → i < n → find_first f i ≡ None → f i ≡ Some a → find_first f n ≡ Some a
unfolding find_first
first_found f i zero a l p q = absurd (omega arith)
first_found f i (suc n) a l p q =
    elim (cases_lt i n) [
      | inl lt ↦ rw (first_found f i n a lt p q)
      | inr ge ↦ let same : n ≡ i = omega arith in rw (same, p) q
    ]

-- where nothing is found, no number finds anything
pub first_no : {X : Type 0} (f : ℕ → Option X) (i n : ℕ) → find_first f n ≡ None → i < n → f i ≡ None
unfolding find_first
first_no f i zero e l = absurd (omega arith)
first_no f i (suc n) e l =
    elim (cases_lt i n) [
      | inl lt ↦ first_no f i n (neither (find_first f n) (f n) e).0 lt
      | inr ge ↦ let same : i ≡ n = omega arith in ap f same ∙ (neither (find_first f n) (f n) e).1
    ]

-- what is found is found by a number below the bound, and by none before it
pub first_some : {X : Type 0} (f : ℕ → Option X) (n : ℕ) (a : X) → find_first f n ≡ Some a →
    (i : ℕ) × (i < n) × (f i ≡ Some a) × ((j : ℕ) → j < i → f j ≡ None)
unfolding find_first
first_some f zero a e = absurd (let z : ◌≡◌ {A = ℕ} 0 1 = cc in omega arith)
first_some f (suc n) a e =
    elim (either (find_first f n) (f n) a e) [
      | inl p ↦ let r = first_some f n a p in let l = r.1 in (r.0, omega arith, r.2, r.3)
      | inr q ↦ (n, omega arith, q.1, λ j l. first_no f j n q.0 l)
    ]
