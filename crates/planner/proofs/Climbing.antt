-- The way from a listed pair over its parents to the pair with state 0. Assumes nothing.
use Rattle.std.proofs.Common.{List, [], ◌∷◌, ◌++◌, ◌≡◌, ◌≢◌, ℕ, ◌<◌, true, length, sym, ap, ◌∙◌, append_assoc, arith}
use Rattle.std.specs.List.{slice_get}
use Rattle.std.specs.Option.{unwrap_or}
use Rattle.std.proofs.lemmas.List.{length-append, length-drop}
use Rattle.std.proofs.lemmas.Option.{unwrap_or-slice_get}
use Rattle.model.specs.declared.pair.Pair.{Pair}
use Rattle.model.specs.Config.{pair}
use Rattle.model.specs.Universe.{Universe, Valid}
use Rattle.universe.proofs.Sounds.{sound}
use Rattle.plans.specs.Lists.{listed, pair_at, rank_of}
use Rattle.plans.specs.Closing.{parent_rank}
use Rattle.plans.specs.Needs.{path}
use Rattle.plans.proofs.Closed.{Closed}
use Rattle.plans.proofs.Closings.{closing_closed}
use Rattle.plans.proofs.Paths.{path_first, path_more, path_short}
use Rattle.plans.proofs.Ranks.{listed_at, rank_low}
use Rattle.closing.specs.declared.order.ClosingOrder.{ClosingOrder}
use Rattle.closing.specs.Order.{pairs_in_order, universe_in_order}
use Rattle.planner.specs.declared.path.Path.{Path}
use Rattle.planner.specs.Held.{PathFits, states_of_path}

-- the pair at a rank, as a lookup gives it
pub pair_or_first : (l : List Pair) (k : ℕ) → unwrap_or (slice_get l k) (pair 0 0) ≡ pair_at l k
pair_or_first l k = unwrap_or-slice_get l k (pair 0 0)

-- the universe of a kept closing order is valid, and its pairs are closed
pub valid_order : (o : ClosingOrder) → Valid (universe_in_order o)
valid_order o = (sound o.universe.tables o.universe.sound).valid

pub closed_order : (o : ClosingOrder) → Closed (universe_in_order o) (pairs_in_order o)
closed_order o = closing_closed (universe_in_order o) (valid_order o)

-- the pair `at` is listed, and its path, with the states rs behind it, is the path of h
pub record Climbed (u : Universe) (l : List Pair) (h : Pair) (rs : List ℕ) (at : Pair) : Type 0 where
  pub member : listed l at ≡ true
  pub whole : path u l h ≡ path u l at ++ rs

module _ (u : Universe) (l : List Pair) (h : Pair) where
  module _ (c : Closed u l) (rs : List ℕ) (at : Pair) (k : Climbed u l h rs at) where
    -- at state 0 the path is whole
    climb_ends : at.state ≡ 0 → rs ≡ path u l h
    climb_ends z = sym (k.whole ∙ ap (λ before. before ++ rs) (path_first u l c at k.member z))

    -- at another state it goes on at the parent, which has a lower rank
    module _ (ne : at.state ≢ 0) where
      parent_low : parent_rank u l at < rank_of l at
      parent_low = c.parent at k.member ne

      climb_more : Climbed u l h (at.state ∷ rs) (pair_at l (parent_rank u l at))
      climb_more =
          record {
            member = listed_at l (parent_rank u l at) (omega (arith, parent_low, rank_low l at k.member));
            whole =
                k.whole ∙ ap (λ before. before ++ rs) (path_more u l c at k.member ne)
                ∙ append_assoc (path u l (pair_at l (parent_rank u l at))) (at.state ∷ []) rs;
          }

      -- there are less than 7 states so far
      climb_room : Valid u → listed l h ≡ true → length rs < 7
      climb_room v e =
          let short = path_short u l c h e v in
          let long = ap length climb_more.whole ∙ length-append (path u l (pair_at l (parent_rank u l at))) (at.state ∷ rs) in
          omega arith

      -- the parent's own rank is that lower one
      climb_lower : rank_of l (pair_at l (parent_rank u l at)) < rank_of l at
      climb_lower = omega (arith, parent_low, c.once (parent_rank u l at) (omega (arith, parent_low, rank_low l at k.member)))

-- in a kept closing order the pair `at` is reached: it is listed, and the states of the path p lead from it to the pair
-- h
pub record Climb (o : ClosingOrder) (h : Pair) (p : Path) (at : Pair) : Type 0 where
  pub fits : PathFits p
  pub climbed : Climbed (universe_in_order o) (pairs_in_order o) h (states_of_path p) at

module _ (o : ClosingOrder) (h : Pair) (e : listed (pairs_in_order o) h ≡ true) where
  abbrev u : Universe
  u = universe_in_order o

  abbrev l : List Pair
  l = pairs_in_order o

  -- the states of the path p lead from the pair `at`
  module _ (p : Path) (at : Pair) (k : Climb o h p at) where
    -- at state 0 they are the path of h
    pub climbing_ends : at.state ≡ 0 → states_of_path p ≡ path u l h
    climbing_ends z = climb_ends u l h (closed_order o) (states_of_path p) at k.climbed z

    module _ (ne : at.state ≢ 0) where
      -- at another state there is a place in front of them
      pub climbing_room : 0 < p.from
      climbing_room =
          let few = climb_room u l h (closed_order o) (states_of_path p) at k.climbed ne (valid_order o) e in
          let full = k.fits.0 in
          omega (arith, length-drop p.from p.states)

      -- g is the parent
      module _ (r : ℕ) (g : Pair) (is : r ≡ parent_rank u l at) (there : g ≡ pair_at l r) where
        -- it has a lower rank
        pub climbing_lower : rank_of l g < rank_of l at
        climbing_lower = rw (there, is) (climb_lower u l h (closed_order o) (states_of_path p) at k.climbed ne)

        -- and is reached with one state more in front
        pub climbing_more : (q : Path) → PathFits q → states_of_path q ≡ at.state ∷ states_of_path p → Climb o h q g
        climbing_more q fits more =
            record {
              fits = fits;
              climbed = rw (there, is, more) (climb_more u l h (closed_order o) (states_of_path p) at k.climbed ne);
            }
