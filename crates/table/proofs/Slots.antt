-- What stands after a slot is written. Assumes nothing.
use Rattle.std.proofs.Common.{◌≡◌, ℕ, ◌<◌, ◌≤◌, ltb, List, length, get_or, set, replicate, None, Option, refl, ◌∙◌, inl, inr}
use Rattle.std.proofs.lemmas.List.{get_or-replicate, get_or-set_same, get_or-set_other}
use Rattle.std.proofs.lemmas.Bool.{cases_eq, cases_lt, cond-false, cond-true, le-ltb, lt-ltb}
use Rattle.model.specs.declared.pair.Pair.{Pair}
use Rattle.model.specs.Orders.{put}
use Rattle.model.proofs.Results.{put_at, put_off}
use Rattle.table.specs.Fit.{standing}

pub standing_within : (slots : List (Option Pair)) (z : ℕ) → z < 256 → standing slots z ≡ get_or slots z None
standing_within slots z low = cond-true (ltb z 256) _ None (lt-ltb z 256 low)

-- nothing stands under a number out of range
pub standing_beyond : (slots : List (Option Pair)) (z : ℕ) → 256 ≤ z → standing slots z ≡ None
standing_beyond slots z high = cond-false (ltb z 256) _ None (le-ltb z 256 high)

pub written : (slots : List (Option Pair)) (z : ℕ) (s : Option Pair) → z < 256 → z < length slots → (y : ℕ) → standing (set slots z s) y ≡ put (standing slots) z s y
written slots z s low l y =
    elim (cases_eq y z) [
      | inl e ↦ rw (e, put_at (standing slots) z s, standing_within (set slots z s) z low) (get_or-set_same slots z s None l)
      | inr ne ↦ rw (put_off (standing slots) z s y ne, get_or-set_other slots z y s None ne) refl
    ]

pub all_vacant : (z : ℕ) → standing (replicate 256 None) z ≡ None
all_vacant z =
    elim (cases_lt z 256) [
      | inl low ↦ standing_within (replicate 256 None) z low ∙ get_or-replicate 256 z None None low
      | inr high ↦ standing_beyond (replicate 256 None) z high
    ]
