-- Texts that grow by one number or one row. Assumes nothing.
use Rattle.std.proofs.Common.{◌≡◌, ℕ, zero, suc, ◌+◌, Bool, true, false, cond, Bor, String, Result, IfOk, string_bytes, List, [], ◌∷◌, ◌++◌, map, filter, fold, refl, sym, ap, ◌∙◌, arith, append_assoc, append-nil, add-one}
use Rattle.std.specs.List.{range_with_len}
use Rattle.std.proofs.lemmas.List.{map-id}
use Rattle.std.proofs.lemmas.List.FromFn.{filter_of_map_range_with_len_more}
use Rattle.std.proofs.lemmas.List.Sums.{fold-append}
use Rattle.std.proofs.lemmas.Result.{IfOk-weaker}
use Rattle.std.specs.Fn.{Mut, CalledAt}
use Rattle.std.specs.Iterator.{Drains}
use Rattle.std.specs.Iterator.Adapters.{filter_source, filter_callee, filter_steps}
use Rattle.std.specs.declared.iter.Filter.{Filter}
use Rattle.std.specs.declared.ops.Range.{Range}
use Rattle.std.proofs.iter.Yields.{nat_range_steps}
use Rattle.std.proofs.lemmas.Iterator.{YieldsList-from_range, items_from_drains}
use Rattle.std.proofs.lemmas.Iterator.Consumers.{YieldsList-from_filter}
use Rattle.console.specs.Described.{labelled_list, list_of, listed, listed_with, rows_below, set_text_of}

-- one number more
listed_next : (bs : List ℕ) (n : ℕ) (b : Bool) → fold listed_with bs (cond b (n ∷ []) []) ≡ cond b (listed_with bs n) bs
listed_next bs n true = refl
listed_next bs n false = refl

listed_along : (f : ℕ → Bool) (n : ℕ) → fold listed_with [] (filter f (map (λ x. x) (range_with_len 0 n))) ≡ listed f n
unfolding listed
listed_along f zero = refl
listed_along f (suc n) =
    let at : 0 + n ≡ n = omega arith in
    let more = rw add-one at (filter_of_map_range_with_len_more f (λ x. x) 0 n n at) in
    ap (λ xs. fold listed_with [] xs) more
    ∙ fold-append listed_with [] (filter f (map (λ x. x) (range_with_len 0 n))) (cond (f n) (n ∷ []) [])
    ∙ ap (λ bs. fold listed_with bs (cond (f n) (n ∷ []) [])) (listed_along f n)
    ∙ listed_next (listed f n) n (f n)

-- the numbers that pass, added one by one, are the list
pub listed_of_filter : (f : ℕ → Bool) (n : ℕ) → fold listed_with [] (filter f (range_with_len 0 n)) ≡ listed f n
listed_of_filter f n = ap (λ xs. fold listed_with [] (filter f xs)) (sym (map-id (range_with_len 0 n))) ∙ listed_along f n

-- the text of a set, from the numbers below n that a filter gives
pub set_of_filter : {F Z E : Type 0} (g : Mut F (Bor ℕ × Unit {0}) Bool) (s : Filter (Range ℕ) F) (label : List ℕ) (f : ℕ → Bool) (n : ℕ) (r : Result (String Z) E)
    → IfOk r (λ t. (ns : List ℕ) × Drains (filter_steps nat_range_steps g) s ns × (string_bytes t ≡ labelled_list label (list_of ns)))
    → filter_source s ≡ record { start = 0; end = n }
    → ((x : ℕ) (b : Bool) (q : F) → CalledAt g (filter_callee s) x b q → (q ≡ filter_callee s) × (b ≡ f x))
    → IfOk r (λ t. string_bytes t ≡ set_text_of label f n)
unfolding set_text_of
set_of_filter g s label f n r told source calls =
    let road = YieldsList-from_filter g f (YieldsList-from_range 0 n n source (omega arith)) refl calls in
    IfOk-weaker r _ _
    (λ t drained.
    let all = items_from_drains drained.0 (drained.1.1.0, drained.1.1.1, λ _. (drained.1.0, drained.1.1.2)) road in
    drained.2 ∙ ap (λ ns. labelled_list label (list_of ns)) (sym (map-id drained.0) ∙ all) ∙ ap (labelled_list label) (listed_of_filter f n))
    told

-- before the first row stands the head alone
pub rows_none : (row : ℕ → List ℕ) (head : List ℕ) → head ++ rows_below row 0 ≡ head
unfolding rows_below
rows_none row head = append-nil head

-- one row more
pub rows_more : (row : ℕ → List ℕ) (head : List ℕ) (n : ℕ) → head ++ rows_below row (n + 1) ≡ (head ++ rows_below row n) ++ row n
unfolding rows_below
rows_more row head n = rw (add-one, append_assoc) refl
