-- The pairs that the lines of a goal name. Assumes nothing.
use Rattle.std.proofs.Common.{List, [], ◌∷◌, ◌≡◌, ℕ, ◌||◌, length, ltb, refl, sym, ap, inl, inr, arith}
use Rattle.std.specs.List.{list_all, list_any}
use Rattle.std.proofs.lemmas.Bool.{cases_lt, le-ltb, lt-ltb}
use Rattle.std.proofs.lemmas.List.Folds.{list_all-map}
use Rattle.model.specs.declared.pair.Pair.{Pair}
use Rattle.plans.specs.Lists.{listed, rank_of, same_pair}
use Rattle.model.proofs.Searches.{refuted}
use Rattle.plans.proofs.Ranks.{rank_listed, rank_low}
use Rattle.planner.specs.Goals.{goal_of, pair_of_line}

-- a search among the lines for a pair is one among the pairs
pub named : (bs : List ℕ) (h : Pair) → list_any (λ b. same_pair h (pair_of_line b)) bs ≡ listed (goal_of bs) h
named [] h = refl
named (b ∷ bs) h = ap (λ c. same_pair h (pair_of_line b) || c) (named bs h)

-- each line's pair is listed exactly if each pair is
pub all_named : (l : List Pair) (bs : List ℕ) → list_all (λ b. listed l (pair_of_line b)) bs ≡ list_all (listed l) (goal_of bs)
all_named l bs = sym (list_all-map (listed l) pair_of_line bs)

-- a pair is listed exactly if its rank is a place of the list
pub ranked : (l : List Pair) (h : Pair) → ltb (rank_of l h) (length l) ≡ listed l h
ranked l h =
    elim (cases_lt (rank_of l h) (length l)) [
      | inl low ↦ rw (lt-ltb (rank_of l h) (length l) low) (sym (rank_listed l h low))
      | inr past ↦ rw (le-ltb (rank_of l h) (length l) past) (sym (refuted (listed l h) (λ e. let low = rank_low l h e in absurd (omega arith))))
    ]
