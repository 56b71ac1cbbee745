-- A search among the kept places is the search among the listed pairs. Assumes nothing.
use Rattle.std.proofs.Common.{List, ◌≡◌, ℕ, Bool, not, length, ap, ◌∙◌, sym, inl, inr, arith}
use Rattle.std.specs.List.{All, position, position_or_len}
use Rattle.std.specs.Option.{unwrap_or}
use Rattle.std.proofs.lemmas.Bool.{cases_lt, le-ltb, lt-ltb}
use Rattle.std.proofs.lemmas.List.{get_or_default}
use Rattle.std.proofs.lemmas.List.Sums.{prefix_len-le-length}
use Rattle.model.specs.declared.pair.Pair.{Pair}
use Rattle.model.specs.Config.{pair}
use Rattle.model.specs.Universe.{IsPair}
use Rattle.universe.specs.declared.held.Universe.{Universe}
use Rattle.universe.specs.Held.{universe_in}
use Rattle.universe.proofs.Sounds.{sound}
use Rattle.plans.specs.Lists.{rank_of, same_pair}
use Rattle.plans.specs.Closing.{closing, parent_rank, supplier_rank}
use Rattle.plans.proofs.Closings.{closing_closed}
use Rattle.plans.proofs.Ranks.{listed_at}
use Rattle.closing.specs.declared.order.ClosingOrder.{ClosingOrder}
use Rattle.closing.specs.Order.{pairs_in_order, universe_in_order}
use Rattle.closing.specs.Ranks.{parent_told, supplier_told}
use Rattle.closing.proofs.Tracking.{places_length}

-- the place that a search finds, or else the length
pub or_length : {X : Type 0} (f : X → Bool) (xs : List X) → unwrap_or (position f xs) (length xs) ≡ position_or_len f xs
or_length f xs =
    elim (cases_lt (position_or_len f xs) (length xs)) [
      | inl low ↦ rw (lt-ltb (position_or_len f xs) (length xs) low)
      | inr past ↦
          let most = prefix_len-le-length (λ x. not (f x)) xs in
          rw (le-ltb (position_or_len f xs) (length xs) past) (omega arith)
    ]

-- the closing order of a universe has pairs of the universe alone
pub closing_pairs : (h : Universe) → All (λ g. IsPair (universe_in h) g.kind g.state) (closing (universe_in h))
closing_pairs h k d low =
    let closed = closing_closed (universe_in h) (sound h.tables h.sound).valid in
    rw (get_or_default (closing (universe_in h)) k d (pair 0 0) low) (closed.pairs _ (listed_at (closing (universe_in h)) k low))

module _ (o : ClosingOrder) where
  pub long : o.len ≡ length (pairs_in_order o)
  long = sym (places_length (pairs_in_order o) o.places o.len o.kept.order)

  pub rank_found : (h : Pair) → unwrap_or (position (same_pair h) (pairs_in_order o)) o.len ≡ rank_of (pairs_in_order o) h
  rank_found h = ap (λ m. unwrap_or (position (same_pair h) (pairs_in_order o)) m) long ∙ or_length (same_pair h) (pairs_in_order o)

  pub parent_found : (h : Pair) → parent_told o.ranks o.len h ≡ parent_rank (universe_in_order o) (pairs_in_order o) h
  parent_found h = ap (λ m. parent_told o.ranks m h) long ∙ o.kept.tells.parent h ∙ omega arith

  pub supplier_found : (p : ℕ) → supplier_told o.ranks o.len p ≡ supplier_rank (universe_in_order o) (pairs_in_order o) p
  supplier_found p = ap (λ m. supplier_told o.ranks m p) long ∙ o.kept.tells.supplier p ∙ omega arith
