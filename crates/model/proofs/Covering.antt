-- How many bindings cover a port: none exactly if it is not covered, and how the count moves with one provider. Assumes nothing.
use Rattle.std.proofs.Common.{◌≡◌, ℕ, zero, suc, ◌+◌, ◌<◌, Bool, true, false, ◌&&◌, ◌||◌, ltb, ◌≢◌, refl, arith}
use Rattle.std.proofs.lemmas.Bool.{lt-ltb}
use Rattle.model.specs.Search.{any, one, sum_below}
use Rattle.model.specs.Universe.{Universe}
use Rattle.model.specs.Config.{Config, provided}
use Rattle.model.specs.Bounded.{covered, covers}
use Rattle.model.proofs.Sums.{sum_moved, sum_same_below}

-- the number of those that pass is not 0 exactly if some number passes
some_more : (s : ℕ) (a b : Bool) → a ≡ ltb 0 s → (a || b) ≡ ltb 0 (s + one b)
some_more s true true e = let l : 0 < s + 1 = omega arith in rw (lt-ltb 0 (s + 1) l)
some_more s true false e = let z : s + 0 ≡ s = omega arith in rw z e
some_more s false true e = let l : 0 < s + 1 = omega arith in rw (lt-ltb 0 (s + 1) l)
some_more s false false e = let z : s + 0 ≡ s = omega arith in rw z e

any_count : (f : ℕ → Bool) (n : ℕ) → any f n ≡ ltb 0 (sum_below (λ x. one (f x)) n)
unfolding any sum_below
any_count f zero = refl
any_count f (suc n) = some_more (sum_below (λ x. one (f x)) n) (any f n) (f n) (any_count f n)

-- x covers the port p of z
abbrev pub covering : Universe → Config → ℕ → ℕ → ℕ → Bool
covering u c z p x = c.bound p x z && provided u p (c.inst x)

-- what is covered is what is covered at least once
pub covered_count : (n : ℕ) (u : Universe) (c : Config) (z p : ℕ) → covered n u c z p ≡ ltb 0 (covers n u c z p)
unfolding covered covers
covered_count n u c z p = any_count (covering u c z p) n

-- where one provider alone may cover in the one and not in the other, it makes the difference
pub covers_moved : (n : ℕ) (u : Universe) (c d : Config) (z p k : ℕ) → k < n →
    ((x : ℕ) → x ≢ k → covering u d z p x ≡ covering u c z p x) →
    covers n u d z p + one (covering u c z p k) ≡ covers n u c z p + one (covering u d z p k)
unfolding covers
covers_moved n u c d z p k l h =
    sum_moved (λ x. one (covering u c z p x)) (λ x. one (covering u d z p x)) k n l (λ x ne. rw (h x ne))

-- where no provider does, there is none
pub covers_same : (n : ℕ) (u : Universe) (c d : Config) (z p : ℕ) →
    ((x : ℕ) → x < n → covering u d z p x ≡ covering u c z p x) → covers n u d z p ≡ covers n u c z p
unfolding covers
covers_same n u c d z p h = sum_same_below (λ x. one (covering u c z p x)) (λ x. one (covering u d z p x)) n (λ x l. rw (h x l))
