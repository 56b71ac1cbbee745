-- What searches in lists of pairs tell: which pairs are listed, at which rank, and which is the first that passes.
-- Assumes nothing.
use Rattle.std.proofs.Common.{List, [], ◌∷◌, ◌++◌, ◌≡◌, ℕ, zero, suc, ◌+◌, ◌<◌, ◌≤◌, Bool, true, false, ◌||◌, eqb, length, ◌⊎◌, refl, sym, ap, ◌∙◌, inl, inr, arith}
use mathlib.Core.Bool.{false≢true, or-false}
use Rattle.std.specs.List.{list_any, position_or_len}
use Rattle.std.proofs.lemmas.Bool.{and_parts, both_ways, cases_lt, eq-eqb, eqb-true, or_cases, or_left, or_right}
use Rattle.std.proofs.lemmas.List.{get_or_append_left, get_or-append-add, length-append}
use Rattle.std.proofs.lemmas.List.Folds.{list_any-append}
use Rattle.std.proofs.lemmas.List.Sums.{fails_before_first, passes_at_first, position_or_len_is}
use Rattle.model.specs.declared.pair.Pair.{Pair}
use Rattle.model.specs.Config.{pair}
use Rattle.plans.specs.Lists.{listed, pair_at, rank_of, same_pair}

-- two pairs are one exactly if they are equal
pub same_self : (h : Pair) → same_pair h h ≡ true
same_self h = rw (eq-eqb h.kind h.kind refl, eq-eqb h.state h.state refl)

pub same_equal : (g h : Pair) → same_pair g h ≡ true → g ≡ h
same_equal g h e =
    let w = and_parts (eqb g.kind h.kind) (eqb g.state h.state) e in
    let k = eqb-true g.kind h.kind w.0 in
    let s = eqb-true g.state h.state w.1 in
    λ i. record { kind = k i; state = s i }

module _ (f : Pair → Bool) where
  -- whatever passes stands at or behind the first that does
  pub first_under : (l : List Pair) (k : ℕ) → k < length l → f (pair_at l k) ≡ true → position_or_len f l ≤ k
  first_under l k low e =
      elim (cases_lt k (position_or_len f l)) [
        | inl lt ↦ absurd (both_ways (f (pair_at l k)) (fails_before_first f l k (pair 0 0) lt) e)
        | inr ge ↦ omega arith
      ]

  -- what a search finds stands in the list
  pub any_first : (l : List Pair) → list_any f l ≡ true → position_or_len f l < length l
  any_first [] e = absurd (false≢true e)
  any_first (x ∷ xs) e = by (λ found. any_first xs found) (f x) refl
    where
      by : (list_any f xs ≡ true → position_or_len f xs < length xs) → (b : Bool) → f x ≡ b → position_or_len f (x ∷ xs) < length (x ∷ xs)
      by rest true there = rw there (omega arith)
      by rest false out =
          let low = rest (elim (or_cases (f x) (list_any f xs) e) [ inl there ↦ absurd (both_ways (f x) out there) | inr found ↦ found ]) in
          rw out (omega arith)

  pub any_at : (l : List Pair) (k : ℕ) → k < length l → f (pair_at l k) ≡ true → list_any f l ≡ true
  any_at [] k low e = absurd (omega arith)
  any_at (x ∷ xs) zero low e = or_left (f x) (list_any f xs) e
  any_at (x ∷ xs) (suc k) low e = or_right (f x) (list_any f xs) (any_at xs k (omega arith) e)

  -- the first that passes, where there is one, passes, and the search finds it
  pub first_passes : (l : List Pair) → position_or_len f l < length l → f (pair_at l (position_or_len f l)) ≡ true
  first_passes l low = passes_at_first f l (pair 0 0) low

  pub first_any : (l : List Pair) → position_or_len f l < length l → list_any f l ≡ true
  first_any l low = any_at l (position_or_len f l) low (first_passes l low)

-- a listed pair stands at its rank
module _ (l : List Pair) where
  pub rank_low : (h : Pair) → listed l h ≡ true → rank_of l h < length l
  rank_low h e = any_first (same_pair h) l e

  pub at_rank : (h : Pair) → rank_of l h < length l → pair_at l (rank_of l h) ≡ h
  at_rank h low = sym (same_equal h (pair_at l (rank_of l h)) (first_passes (same_pair h) l low))

  pub listed_rank : (h : Pair) → listed l h ≡ true → pair_at l (rank_of l h) ≡ h
  listed_rank h e = at_rank h (rank_low h e)

  pub rank_listed : (h : Pair) → rank_of l h < length l → listed l h ≡ true
  rank_listed h low = first_any (same_pair h) l low

  pub listed_at : (k : ℕ) → k < length l → listed l (pair_at l k) ≡ true
  listed_at k low = any_at (same_pair (pair_at l k)) l k low (same_self (pair_at l k))

  -- two listed pairs of one rank are one
  pub rank_once : (g h : Pair) → listed l g ≡ true → listed l h ≡ true → rank_of l g ≡ rank_of l h → g ≡ h
  rank_once g h p q e = sym (listed_rank g p) ∙ ap (pair_at l) e ∙ listed_rank h q

  -- a listed pair that passes makes a search succeed
  pub any_in : (f : Pair → Bool) (h : Pair) → listed l h ≡ true → f h ≡ true → list_any f l ≡ true
  any_in f h p e = any_at f l (rank_of l h) (rank_low h p) (ap f (listed_rank h p) ∙ e)

  -- what a search finds is a listed pair that passes
  pub any_found_in : (f : Pair → Bool) → list_any f l ≡ true → (h : Pair) × (listed l h ≡ true) × (f h ≡ true)
  any_found_in f e =
      let low = any_first f l e in
      (pair_at l (position_or_len f l), listed_at (position_or_len f l) low, first_passes f l low)

-- with a pair more at the end
module _ (l : List Pair) (h : Pair) where
  pub any_pushed : (f : Pair → Bool) → list_any f (l ++ (h ∷ [])) ≡ (list_any f l || f h)
  any_pushed f = list_any-append f l (h ∷ []) ∙ ap (λ b. list_any f l || b) (or-false (f h))

  pub any_kept : (f : Pair → Bool) → list_any f l ≡ true → list_any f (l ++ (h ∷ [])) ≡ true
  any_kept f e = any_pushed f ∙ or_left (list_any f l) (f h) e

  pub listed_new : listed (l ++ (h ∷ [])) h ≡ true
  listed_new = any_pushed (same_pair h) ∙ or_right (listed l h) (same_pair h h) (same_self h)

  pub listed_pushed : (g : Pair) → listed (l ++ (h ∷ [])) g ≡ true → (listed l g ≡ true) ⊎ (g ≡ h)
  listed_pushed g e =
      elim (or_cases (listed l g) (same_pair g h) (sym (any_pushed (same_pair g)) ∙ e)) [
        | inl p ↦ inl p
        | inr q ↦ inr (same_equal g h q)
      ]

  pub length_pushed : length (l ++ (h ∷ [])) ≡ length l + 1
  length_pushed = length-append l (h ∷ [])

  pub at_pushed : (k : ℕ) → k < length l → pair_at (l ++ (h ∷ [])) k ≡ pair_at l k
  at_pushed k low = get_or_append_left l (h ∷ []) (pair 0 0) k low

  pub at_new : pair_at (l ++ (h ∷ [])) (length l) ≡ h
  at_new = let e : length l ≡ length l + 0 = omega arith in ap (pair_at (l ++ (h ∷ []))) e ∙ get_or-append-add l (h ∷ []) 0 (pair 0 0)

  -- the first that passes stays the first
  pub first_kept : (f : Pair → Bool) → position_or_len f l < length l → position_or_len f (l ++ (h ∷ [])) ≡ position_or_len f l
  first_kept f low =
      let long = length_pushed in
      position_or_len_is f (l ++ (h ∷ [])) (position_or_len f l) (pair 0 0) (omega arith)
      (λ k lt. ap f (at_pushed k (omega arith)) ∙ fails_before_first f l k (pair 0 0) lt)
      (λ _. ap f (at_pushed (position_or_len f l) low) ∙ first_passes f l low)

  pub rank_new : listed l h ≡ false → rank_of (l ++ (h ∷ [])) h ≡ length l
  rank_new out =
      let long = length_pushed in
      position_or_len_is (same_pair h) (l ++ (h ∷ [])) (length l) (pair 0 0) (omega arith)
      (λ k lt. ap (same_pair h) (at_pushed k lt) ∙ other k lt)
      (λ _. ap (same_pair h) at_new ∙ same_self h)
    where
      other : (k : ℕ) → k < length l → same_pair h (pair_at l k) ≡ false
      other k lt = by (same_pair h (pair_at l k)) refl
        where
          by : (b : Bool) → same_pair h (pair_at l k) ≡ b → b ≡ false
          by true e = absurd (both_ways (listed l h) out (any_at (same_pair h) l k lt e))
          by false e = refl
