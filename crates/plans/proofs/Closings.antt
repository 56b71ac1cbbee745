-- The closing order lists pairs of the universe, none twice, each behind what it needs, and each for which all that it
-- needs is listed. Assumes nothing.
use Rattle.std.proofs.Common.{List, ◌≡◌, ℕ, zero, suc, ◌*◌, ◌<◌, ◌≤◌, true, None, inl, inr, arith}
use Rattle.std.proofs.lemmas.Bool.{both_ways, cases_Bool}
use Rattle.model.specs.declared.pair.Pair.{Pair}
use Rattle.model.specs.Config.{pair}
use Rattle.model.specs.Search.{sum_below}
use Rattle.model.specs.Universe.{Universe, Valid}
use Rattle.plans.specs.Lists.{listed}
use Rattle.plans.specs.Closing.{addable, closing, initial_pairs, next_pair, pair_count}
use Rattle.plans.proofs.Closed.{Closed}
use Rattle.plans.proofs.Growing.{Sound, Turned, initial_length, initial_listed, initial_sound, listed_count_most, next_none, ready_addable, turned}

-- a sound list with the initial pairs, to which nothing can be added, is closed
pub closed_from : (u : Universe) (l : List Pair) → Sound u l → ((t : ℕ) → t < u.types → listed l (pair t 0) ≡ true) →
    next_pair u l ≡ None → Closed u l
closed_from u l s initial still =
    record {
      pairs = s.pairs;
      once = s.once;
      size = omega (arith, s.count, listed_count_most u l);
      initial = initial;
      parent = s.parent;
      supplier = s.supplier;
      full = λ h is lead ports. elim (cases_Bool (listed l h)) [
        | inl there ↦ there
        | inr out ↦ absurd (both_ways (addable u l h) (next_none u l still h is)
            (ready_addable u l h out (record { lead = lead; ports = ports })))
      ];
    }

module _ (u : Universe) (ok : Valid u) where
  -- the closing order is what so many turns as there are pairs lead to from the initial pairs
  pub closing_turned : Turned u (pair_count u) (initial_pairs u) (closing u)
  unfolding closing
  closing_turned = turned u ok (pair_count u) (initial_pairs u) (initial_sound u ok u.types (omega arith))

  -- nothing can be added: there is an initial pair, so otherwise more pairs would be listed than there are
  pub closing_still : next_pair u (closing u) ≡ None
  closing_still =
      elim closing_turned.end [
        | inl still ↦ still
        | inr long ↦
            let count = closing_turned.sound.count in
            absurd (omega (arith, ok.types.0, initial_length u.types, listed_count_most u (closing u)))
      ]

  -- the closing order is closed
  pub closing_closed : Closed u (closing u)
  closing_closed =
      closed_from u (closing u) closing_turned.sound
      (λ t low. closing_turned.kept (pair t 0) (initial_listed u.types t low)) closing_still

-- a sum of terms of at most m
sum_most_each : (f : ℕ → ℕ) (m n : ℕ) → ((y : ℕ) → y < n → f y ≤ m) → sum_below f n ≤ n * m
unfolding sum_below
sum_most_each f m zero h = omega arith
sum_most_each f m (suc n) h =
    let before = sum_most_each f m n (λ y l. h y (omega arith)) in
    let here = h n (omega arith) in
    omega arith

-- there are at most 16 types of at most 8 states
pub pair_count_small : (u : Universe) → Valid u → pair_count u ≤ 128
pair_count_small u ok =
    let most = sum_most_each u.states 8 u.types (λ t low. (ok.states t low).1) in
    omega (arith, most, ok.types.1)
