-- What `any` and `find_map` over the numbers below a bound answer, as a search of the definitions. Assumes nothing.
use Rattle.std.proofs.Common.{List, ◌≡◌, ℕ, zero, suc, ◌+◌, ◌<◌, Bool, true, false, length, get_or, add-one, Some, None, Option, sym, ap, ◌∙◌, subst, arith}
use Rattle.std.specs.Bool.{IsTrue, MatchBool}
use Rattle.std.specs.Option.{IfSome, IsSomeAnd, MatchOption, option_map}
use Rattle.std.specs.List.{AllWithin, HoldsAt, range_with_len}
use Rattle.std.proofs.lemmas.Bool.{both_ways}
use Rattle.std.proofs.lemmas.List.FromFn.{length-range_with_len, get_or-range_with_len}
use Rattle.std.proofs.lemmas.Iterator.{cases_from_any, YieldsList-from_range}
use Rattle.std.specs.Iterator.{ChecksAny}
use Rattle.std.specs.Iterator.Runs.{Run, SomeRun, AllItemsGive, IsFirstToGive, ItemsCountUp}
use Rattle.std.proofs.iter.runs.Sources.{range_runs}
use Rattle.std.proofs.iter.Yields.{nat_range_steps}
use Rattle.std.specs.declared.ops.Range.{Range}
use denote.Param.Members.{Mut, Called}
use Rattle.model.specs.Search.{any, find_first}
use Rattle.model.proofs.Searches.{any_found, any_none_of, first_found, first_more, first_none}

-- a range is its two ends
whole : (n : ℕ) (s : Range ℕ) → s.start ≡ 0 → s.end ≡ n → s ≡ record { start = 0; end = n }
whole n s low high = ap (λ (a : ℕ). record { start = a; end = s.end }) low ∙ ap (λ (b : ℕ). record { start = 0; end = b }) high

-- `any` over the numbers below n
pub any_over : {F : Type 0} {g : Mut F (ℕ × Unit {0}) Bool} (f : ℕ → Bool) (n : ℕ) (s u : Range ℕ) (p : F) (r : Bool) →
    s.start ≡ 0 → s.end ≡ n → ChecksAny nat_range_steps g s p r u →
    ((x : ℕ) (q : F) → Called g p (x, tt) true q → f x ≡ true) →
    ((x : ℕ) (q : F) → Called g p (x, tt) false q → (q ≡ p) × (f x ≡ false)) → r ≡ any f n
any_over f n s u p r low high ran passes fails =
    by r (cases_from_any u p r (λ x. f x ≡ true) (λ x. f x ≡ false) ran (YieldsList-from_range 0 n n (whole n s low high) (omega arith)) passes fails)
  where
    all : List ℕ
    all = range_with_len 0 n

    at_place : (i : ℕ) → i < n → get_or all i 0 ≡ i
    at_place i low = omega (arith, get_or-range_with_len 0 n i 0 low)

    by : (b : Bool) → MatchBool b ((k : ℕ) × (k < length all) × HoldsAt (λ x. f x ≡ true) all k) (AllWithin (λ x. f x ≡ false) all 0 (length all)) → b ≡ any f n
    by true h =
        let low : h.0 < n = omega (arith, h.1, length-range_with_len 0 n) in
        sym (any_found f h.0 n low (ap f (sym (at_place h.0 low)) ∙ h.2 0))
    by false h =
        sym (any_none_of f n (λ i low e. both_ways (f i)
        (ap f (sym (at_place i low)) ∙ h i 0 (omega arith) (omega (arith, low, length-range_with_len 0 n))) e))

-- where no number below n finds anything, nothing is found
pub first_upto : {X : Type 0} (f : ℕ → Option X) (n : ℕ) → ((i : ℕ) → i < n → f i ≡ None) → find_first f n ≡ None
first_upto f zero h = first_none f
first_upto f (suc n) h = rw add-one at (first_more f n (first_upto f n (λ i l. h i (omega arith))) (h n (omega arith)))

-- `find_map` over the numbers below n
pub first_over : {X F : Type 0} {g : Mut F (ℕ × Unit {0}) (Option X)} (f : ℕ → Option X) (n : ℕ) (s : Range ℕ) (p : F) (r : Option X) →
    s.start ≡ 0 → s.end ≡ n →
    SomeRun nat_range_steps s (λ k. MatchOption r (IsTrue k.whole × AllItemsGive k g p None)
    (λ y. (i : ℕ) × (i < k.len) × (k.len ≡ i + 1) × IsFirstToGive k g p (Some y) None i)) →
    ((x : ℕ) (a : Option X) (q : F) → Called g p (x, tt) a q → (q ≡ p) × (a ≡ f x)) → r ≡ find_first f n
first_over {X} {F} {g} f n s p r low high run is = by r run.2
  where
    k : Run nat_range_steps
    k = run.0

    starts : k.from ≡ record { start = 0; end = n }
    starts = run.1 ∙ whole n s low high

    kept : (a : ℕ × Unit {0}) (r : Option X) (q : F) → Called g p a r q → q ≡ p
    kept a r q c = (is a.0 r q c).0

    up : ItemsCountUp k 0 n
    up = subst (λ (t : Range ℕ). ItemsCountUp k t.start t.end) starts (range_runs k k.seen)

    item : (o : Option ℕ) (i : ℕ) → option_map (λ y. y) o ≡ Some i → o ≡ Some i
    item None i e = e
    item (Some j) i e = e

    at_place : (i : ℕ) → i < k.len → k.at i ≡ Some i
    at_place i low = item (k.at i) i (let e : 0 + i ≡ i = omega arith in up.3 i low ∙ ap (λ j. Some j) e)

    -- what is said of the item at a place is said of the number
    said : (P : ℕ → Type 0) (i : ℕ) → i < k.len → IfSome (k.at i) P → P i
    said P i low h = subst (λ o. IfSome o P) (at_place i low) h

    said_there : (P : ℕ → Type 0) (i : ℕ) → i < k.len → IsSomeAnd (k.at i) P → P i
    said_there P i low h = subst (λ o. IsSomeAnd o P) (at_place i low) h

    by : (o : Option X) → MatchOption o (IsTrue k.whole × AllItemsGive k g p None) (λ y. (i : ℕ) × (i < k.len) × (k.len ≡ i + 1) × IsFirstToGive k g p (Some y) None i) → o ≡ find_first f n
    by None h =
        let long = up.1 h.0 in
        sym (first_upto f n (λ i low. sym (is i None p (said (λ x. Called g p (x, tt) None p) i (omega (arith, long)) (h.1 kept i))).1))
    by (Some y) h =
        let w = h.3 kept in
        let long = up.0 in
        sym (first_found f h.0 n y (omega (arith, long, h.1))
        (first_upto f h.0 (λ i low. sym (is i None p (said_there (λ x. Called g p (x, tt) None p) i (omega (arith, low, h.1)) (w.1 i low))).1))
        (sym (is h.0 (Some y) p (said_there (λ x. Called g p (x, tt) (Some y) p) h.0 h.1 w.0)).1))
