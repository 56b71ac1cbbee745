-- The needed pairs, found from the highest rank down, with the set of the ports that their paths require. Assumes
-- nothing.
use Rattle.std.proofs.Common.{List, [], ◌∷◌, ◌≡◌, ℕ, zero, suc, ◌+◌, ◌-◌, ◌<◌, ◌≤◌, Bool, true, false, cond, ◌&&◌, ◌||◌, eqb, drop, get_or, length, take, refl, sym, ap, subst, ◌∙◌, add-one, arith}
use lib.Bits.{bit_and, bit_or}
use mathlib.Core.Bool.{false≢true}
use Rattle.std.proofs.Math.Bool.{or_comm}
use Rattle.std.specs.List.{list_any}
use Rattle.model.proofs.Searches.{any_none_of}
use Rattle.std.proofs.Math.Path.{fun_ext}
use Rattle.std.proofs.Math.Seq.{drop-cons, drop-length}
use Rattle.std.proofs.lemmas.List.{drop_all, length-drop}
use Rattle.std.proofs.lemmas.List.Folds.{list_any_more}
use Rattle.model.specs.declared.pair.Pair.{Pair}
use Rattle.model.specs.Config.{pair}
use Rattle.model.specs.Search.{any}
use Rattle.model.specs.Universe.{Universe, Valid}
use Rattle.universe.specs.declared.tables.State.{State}
use Rattle.universe.specs.declared.tables.Tables.{Tables}
use Rattle.universe.specs.Sets.{has}
use Rattle.universe.specs.Tables.{entry_at, universe_of}
use Rattle.plans.specs.Lists.{listed, pair_at, rank_of}
use Rattle.plans.specs.Closing.{provides, supplier_rank}
use Rattle.plans.specs.Needs.{needed_among, path_requires, serves}
use Rattle.plans.proofs.Closed.{Closed}
use Rattle.plans.proofs.Closings.{pair_count_small}
use Rattle.plans.proofs.Laws.{size_law}
use Rattle.plans.proofs.Ranks.{first_passes}
use Rattle.std.proofs.lemmas.Bool.{and_from, and_parts, both_ways, eqb-true}
use Rattle.closing.specs.declared.order.ClosingOrder.{ClosingOrder}
use Rattle.closing.specs.Order.{pairs_in_order, universe_in_order}
use Rattle.closing.proofs.Masks.{has_and, has_none, has_or}
use Rattle.planner.specs.declared.needs.Needed.{Needed}
use Rattle.planner.specs.Held.{NeededFits, is_needed, pairs_of_needed, supplies}
use Rattle.planner.proofs.Climbing.{closed_order, valid_order}

-- the set has the ports that some of the states rs of the type t requires
pub record Collects (t : Tables) (k ports : ℕ) (rs : List ℕ) : Type 0 where
  pub each : (p : ℕ) → has 32 ports p ≡ list_any (λ q. (universe_of t).requires k q p) rs

module _ (t : Tables) (k : ℕ) where
  -- of no states the empty set
  pub collect_none : Collects t k 0 []
  collect_none = record { each = λ p. has_none 32 p }

  -- and with one state more the set with its ports
  pub collect_more : (rs : List ℕ) (i ports : ℕ) (entry : State) → i < length rs → entry ≡ entry_at t k (get_or rs i 0) →
      Collects t k ports (take i rs) → Collects t k (bit_or ports entry.required) (take (i + 1) rs)
  collect_more rs i ports entry low is before =
      record {
        each = λ p.
            has_or 32 ports entry.required p
            ∙ ap (λ b. b || has 32 entry.required p) (before.each p)
            ∙ ap (λ e. list_any (λ q. (universe_of t).requires k q p) (take i rs) || has 32 e.required p) is
            ∙ sym (list_any_more (λ q. (universe_of t).requires k q p) rs i 0 low);
      }

-- two tests with a third, taken apart
apart : (a b f g c : Bool) → ((a || b) || ((f || g) && c)) ≡ ((a || (f && c)) || (b || (g && c)))
apart a b f g c = grind arith

-- a search whose test is one of two passes where a search for one of them does
any_either : (f g c : ℕ → Bool) (n : ℕ) → any (λ p. (f p || g p) && c p) n ≡ (any (λ p. f p && c p) n || any (λ p. g p && c p) n)
unfolding any
any_either f g c zero = refl
any_either f g c (suc n) = rw (any_either f g c n) (apart (any (λ p. f p && c p) n) (any (λ p. g p && c p) n) (f n) (g n) (c n))

module _ (u : Universe) (l : List Pair) where
  -- the set has the ports that some pair on the paths of the pairs ns requires
  pub record Wants (ports : ℕ) (ns : List Pair) : Type 0 where
    pub each : (p : ℕ) → has 32 ports p ≡ list_any (λ h. path_requires u l h p) ns

  -- a pair serves one of the pairs ns exactly if it supplies one of those ports
  serves_any : (g : Pair) (ns : List Pair) →
      any (λ p. list_any (λ h. path_requires u l h p) ns && eqb (supplier_rank u l p) (rank_of l g)) u.ports ≡ list_any (serves u l g) ns
  unfolding serves
  serves_any g [] = any_none_of _ u.ports (λ p low e. false≢true e)
  serves_any g (h ∷ hs) =
      any_either (path_requires u l h) (λ p. list_any (λ h. path_requires u l h p) hs) (λ p. eqb (supplier_rank u l p) (rank_of l g)) u.ports
      ∙ ap (λ b. serves u l g h || b) (serves_any g hs)

  supplies_any : (g : Pair) (ns : List Pair) (ports : ℕ) → Wants ports ns → supplies u l ports (rank_of l g) ≡ list_any (serves u l g) ns
  supplies_any g ns ports w = ap (λ f. any f u.ports) (fun_ext (λ p. ap (λ b. b && eqb (supplier_rank u l p) (rank_of l g)) (w.each p))) ∙ serves_any g ns

  wants_none : Wants 0 []
  wants_none = record { each = λ p. has_none 32 p }

  wants_more : (h : Pair) (ns : List Pair) (wanted ports : ℕ) → Wants wanted ns → ((p : ℕ) → has 32 ports p ≡ path_requires u l h p) →
      Wants (bit_or wanted ports) (h ∷ ns)
  wants_more h ns wanted ports w r =
      record {
        each = λ p.
            has_or 32 wanted ports p ∙ or_comm (has 32 wanted p) (has 32 ports p)
            ∙ ap (λ b. b || has 32 wanted p) (r p) ∙ ap (λ b. path_requires u l h p || b) (w.each p);
      }

  -- there are no more needed pairs than pairs
  among_few : (goal xs : List Pair) → length (needed_among u l goal xs) ≤ length xs
  unfolding needed_among
  among_few goal [] = omega arith
  among_few goal (x ∷ xs) =
      let before = among_few goal xs in
      let here = most (listed goal x || list_any (serves u l x) (needed_among u l goal xs)) x (needed_among u l goal xs) in
      omega arith
    where
      most : (b : Bool) (x : Pair) (ns : List Pair) → length (cond b (x ∷ ns) ns) ≤ length ns + 1
      most true x ns = omega arith
      most false x ns = omega arith

-- a pair that provides none of the ports supplies none
pub supplies_none : (o : ClosingOrder) (ports rank provided : ℕ) (h : Pair) → rank < length (pairs_in_order o) →
    h ≡ pair_at (pairs_in_order o) rank → provided ≡ (entry_at o.universe.tables h.kind h.state).provided →
    bit_and provided ports ≡ 0 → false ≡ supplies (universe_in_order o) (pairs_in_order o) ports rank
supplies_none o ports rank provided h low is told none = sym (any_none_of _ (universe_in_order o).ports out)
  where
    u : Universe
    u = universe_in_order o

    l : List Pair
    l = pairs_in_order o

    out : (p : ℕ) → p < u.ports → (has 32 ports p && eqb (supplier_rank u l p) rank) ≡ true → ⊥
    out p below e =
        let w = and_parts (has 32 ports p) (eqb (supplier_rank u l p) rank) e in
        let here = eqb-true (supplier_rank u l p) rank w.1 in
        let passes = first_passes (provides u p) l (omega (arith, here, low)) in
        let there : has 32 provided p ≡ true =
        ap (λ n. has 32 n p) told
        ∙ ap (λ (g : Pair). has 32 (entry_at o.universe.tables g.kind g.state).provided p) (is ∙ ap (pair_at l) (sym here))
        ∙ passes in
        both_ways (has 32 (bit_and provided ports) p) (ap (λ n. has 32 n p) none ∙ has_none 32 p)
        (has_and 32 provided ports p ∙ and_from (has 32 provided p) (has 32 ports p) there w.0)

-- from the rank k on, the needed pairs are found, with the ports that their paths require
pub record Turn (u : Universe) (l goal : List Pair) (k : ℕ) (n : Needed) (wanted : ℕ) : Type 0 where
  pub fits : NeededFits n
  pub low : k ≤ length l
  pub among : pairs_of_needed n ≡ needed_among u l goal (drop k l)
  pub wants : Wants u l wanted (pairs_of_needed n)

module _ (u : Universe) (l goal : List Pair) where
  -- at the outset there are none
  turn_first : (n : Needed) → length n.pairs ≡ 128 → n.from ≡ 128 → Turn u l goal (length l) n 0
  unfolding needed_among
  turn_first n full last =
      let none = drop_all n.from n.pairs (omega arith) in
      record {
        fits = (full, omega arith);
        low = omega arith;
        among = rw (none, drop-length l) refl;
        wants = rw none (wants_none u l);
      }

  module _ (c : Closed u l) (k : ℕ) (n : Needed) (wanted : ℕ) (t : Turn u l goal (k + 1) n wanted) where
    low : k < length l
    low = let under = t.low in omega arith

    -- there is room for one more
    turn_room : Valid u → 0 < n.from
    turn_room v =
        let full = t.fits.0 in
        let few = among_few u l goal (drop (k + 1) l) in
        let long = ap length t.among in
        omega (arith, low, c.size, pair_count_small u v, length-drop n.from n.pairs, length-drop (k + 1) l)

    abbrev h : Pair
    h = pair_at l k

    abbrev ns : List Pair
    ns = pairs_of_needed n

    -- the pair of the next rank is one of them exactly if it is in the goal, or supplies one of the ports
    next : needed_among u l goal (drop k l) ≡ cond (is_needed u l goal wanted k) (h ∷ ns) ns
    unfolding needed_among
    next =
        let same = rw add-one at (sym t.among) in
        let served = sym (supplies_any u l h ns wanted t.wants) ∙ ap (supplies u l wanted) (c.once k low) in
        ap (needed_among u l goal) (drop-cons l k (pair 0 0) low)
        ∙ ap (λ xs. cond (listed goal h || list_any (serves u l h) xs) (h ∷ xs) xs) same
        ∙ ap (λ b. cond (listed goal h || b) (h ∷ ns) ns) served

    -- if it is not, nothing changes
    turn_passed : is_needed u l goal wanted k ≡ false → Turn u l goal k n wanted
    turn_passed e =
        record {
          fits = t.fits;
          low = omega (arith, low);
          among = sym (next ∙ ap (λ b. cond b (h ∷ ns) ns) e);
          wants = t.wants;
        }

    -- if it is, it comes in front of them
    turn_taken : is_needed u l goal wanted k ≡ true → (m : Needed) → NeededFits m → pairs_of_needed m ≡ h ∷ ns →
        (ports : ℕ) → ((p : ℕ) → has 32 ports p ≡ path_requires u l h p) → Turn u l goal k m (bit_or wanted ports)
    turn_taken e m fits more ports required =
        record {
          fits = fits;
          low = omega (arith, low);
          among = more ∙ sym (next ∙ ap (λ b. cond b (h ∷ ns) ns) e);
          wants = rw more (wants_more u l h ns wanted ports t.wants required);
        }

-- the same for the pairs of a kept closing order, where the rank r of a turn is that behind its pair
module _ (o : ClosingOrder) (goal : List Pair) where
  abbrev u : Universe
  u = universe_in_order o

  abbrev l : List Pair
  l = pairs_in_order o

  -- at the highest rank there are none
  pub needing_begins : (n : Needed) (r : ℕ) → length n.pairs ≡ 128 → n.from ≡ 128 → r ≡ length l → Turn u l goal r n 0
  needing_begins n r full last is = rw is (turn_first u l goal n full last)

  -- at the lowest they are all found, and few
  pub needing_few : (r : ℕ) (n : Needed) (wanted : ℕ) → Turn u l goal r n wanted → r ≤ 0 → length goal ≤ 16 → length (pairs_of_needed n) ≤ 48
  needing_few r n wanted t last few =
      let first : r ≡ 0 = omega arith in
      rw (t.among, first) (size_law u goal (valid_order o) few).0

  module _ (r : ℕ) (n : Needed) (wanted : ℕ) (t : Turn u l goal r n wanted) (pos : 0 < r) where
    turn : Turn u l goal (r - 1 + 1) n wanted
    turn = let back : r ≡ r - 1 + 1 = omega arith in subst (λ (k : ℕ). Turn u l goal k n wanted) back t

    -- there is room for one more
    pub needing_room : 0 < n.from
    needing_room = turn_room u l goal (closed_order o) (r - 1) n wanted turn (valid_order o)

    -- b tells whether the pair of the turn is needed
    module _ (b : Bool) (told : b ≡ is_needed u l goal wanted (r - 1)) where
      -- the pairs and ports stay where it is not
      pub needing_passed : b ≡ false → Turn u l goal (r - 1) n wanted
      needing_passed e = turn_passed u l goal (closed_order o) (r - 1) n wanted turn (sym told ∙ e)

      -- where it is, it comes in front of them, and the ports of its path are added
      pub needing_taken : b ≡ true → (g : Pair) → g ≡ pair_at l (r - 1) → (m : Needed) → NeededFits m →
          pairs_of_needed m ≡ g ∷ pairs_of_needed n → (ports : ℕ) → ((p : ℕ) → has 32 ports p ≡ path_requires u l g p) →
          Turn u l goal (r - 1) m (bit_or wanted ports)
      needing_taken e g is m fits more ports required =
          turn_taken u l goal (closed_order o) (r - 1) n wanted turn (sym told ∙ e) m fits
          (more ∙ ap (λ x. x ∷ pairs_of_needed n) is) ports (λ p. required p ∙ ap (λ x. path_requires u l x p) is)
