-- The line at a place of a script. Assumes nothing.
use Rattle.std.proofs.Common.{List, ◌∷◌, [], ◌++◌, ◌≡◌, ℕ, ◌+◌, ◌<◌, ◌≤◌, Bool, cond, Some, None, take, drop, length, slice_get, get_or, All, count_by, inl, inr, subst, sym, ◌∙◌}
use Rattle.std.proofs.lemmas.List.{drop_more, take_more}
use Rattle.std.proofs.lemmas.List.Elements.{All-get_or}
use Rattle.std.proofs.lemmas.List.Sums.{sum_by-drop_more}
use Rattle.std.proofs.lemmas.Option.{get_or_from_slice_get, none-some, slice_get_cases, slice_get_within}

-- where there is no line, the place is at the end or behind it
pub line_none : {X : Type 0} (xs : List X) (i : ℕ) → slice_get xs i ≡ None → length xs ≤ i
line_none xs i e =
    elim (slice_get_cases xs i).1 [
      | inl there ↦ absurd (none-some there.0 (sym e ∙ there.2))
      | inr past ↦ past.0
    ]

module _ {X : Type 0} (xs : List X) (i : ℕ) (x : X) (e : slice_get xs i ≡ Some x) where
  -- the place is within the script
  pub line_within : i < length xs
  line_within = slice_get_within xs i x e

  -- the same line, read with itself as the default
  at_place : get_or xs i x ≡ x
  at_place = get_or_from_slice_get xs i x x e

  -- the line is the first of those that are left
  pub line_left : drop i xs ≡ x ∷ drop (i + 1) xs
  line_left = subst (λ y. drop i xs ≡ y ∷ drop (i + 1) xs) at_place (drop_more xs i x line_within)

  -- and the last of those up to the next place
  pub line_done : take (i + 1) xs ≡ take i xs ++ x ∷ []
  line_done = subst (λ y. take (i + 1) xs ≡ take i xs ++ y ∷ []) at_place (take_more xs i x line_within)

  -- what holds of every line holds of it
  pub line_all : (P : X → Type 0) → All P xs → P x
  line_all P h = subst P at_place (All-get_or P xs i x line_within h)

  -- it counts among those that are left
  pub line_counts : (p : X → Bool) → count_by p (drop i xs) ≡ cond (p x) 1 0 + count_by p (drop (i + 1) xs)
  line_counts p =
      subst (λ y. count_by p (drop i xs) ≡ cond (p y) 1 0 + count_by p (drop (i + 1) xs)) at_place
      (sum_by-drop_more (λ y. cond (p y) 1 0) xs i x line_within)
