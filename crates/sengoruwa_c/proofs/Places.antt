-- Numbers are written into a list one after the other. Assumes nothing.
use Rattle.std.proofs.Common.{◌≡◌, ℕ, ◌+◌, ◌<◌, ◌≤◌, List, [], ◌∷◌, ◌++◌, drop, get_or, length, map, min, set, sym, ap, ◌∙◌, add-one, append_assoc, arith, zero-add}
use Rattle.std.specs.List.{range_with_len}
use Rattle.std.proofs.Math.Seq.{drop-cons}
use Rattle.std.proofs.lemmas.List.{set_at}
use Rattle.std.proofs.lemmas.List.FromFn.{length-map-range_with_len, map-range_with_len_more}
use Rattle.sengoruwa_c.specs.Filled.{begun, filled}

-- one place more
begun_more : (f : ℕ → ℕ) (xs : List ℕ) (i : ℕ) → i < length xs → set (begun f i xs) i (f i) ≡ begun f (i + 1) xs
begun_more f xs i low =
    let front = map f (range_with_len 0 i) in
    let more = drop (i + 1) xs in
    let behind : drop i xs ≡ get_or xs i 0 ∷ more = drop-cons xs i 0 low ∙ ap (λ k. get_or xs i 0 ∷ drop k xs) (sym (add-one i)) in
    ap (λ ys. set (front ++ ys) i (f i)) behind
    ∙ set_at front (get_or xs i 0) more (f i) i (length-map-range_with_len f 0 i)
    ∙ sym (ap (λ zs. zs ++ more) (map-range_with_len_more f 0 i i (zero-add i)) ∙ append_assoc front (f i ∷ []) more)

-- the same of a list in which so many places are written, up to the end k
pub filled_more : (f : ℕ → ℕ) (xs ys : List ℕ) (i k m n : ℕ) → k ≡ min (length xs) m → i < k → n ≡ f i → ys ≡ begun f i xs → set ys i n ≡ begun f (i + 1) xs
filled_more f xs ys i k m n end low told is =
    let inside : i < length xs = omega arith in ap (λ zs. set zs i n) is ∙ ap (set (begun f i xs) i) told ∙ begun_more f xs i inside

-- at the end all are written
pub filled_all : (f : ℕ → ℕ) (xs ys : List ℕ) (i k m : ℕ) → k ≡ min (length xs) m → i ≤ k → k ≤ i → ys ≡ begun f i xs → ys ≡ filled f m xs
filled_all f xs ys i k m end most least is = let last : i ≡ min (length xs) m = omega arith in is ∙ ap (λ j. begun f j xs) last
