-- The needed pairs: which they are, in which order they come, and how many there are at most. Assumes nothing.
use Rattle.std.proofs.Common.{List, [], ◌∷◌, ◌≡◌, ℕ, zero, suc, ◌+◌, ◌<◌, ◌≤◌, Bool, true, false, cond, ◌||◌, length, ◌⊎◌, ◌↔◌, refl, sym, ap, ◌∙◌, inl, inr, add-one, arith}
use mathlib.Core.Bool.{false≢true}
use Rattle.std.specs.List.{list_all, list_any}
use Rattle.std.proofs.lemmas.Bool.{and_from, and_parts, both_ways, cases_Bool, cases_order, eq-eqb, eqb-true, or_cases, or_left, or_right}
use Rattle.std.proofs.lemmas.List.Sums.{position_or_len_is}
use Rattle.model.specs.declared.pair.Pair.{Pair}
use Rattle.model.specs.Config.{pair}
use Rattle.model.specs.Universe.{Universe, Valid}
use Rattle.model.proofs.Searches.{any_found, any_some, refuted}
use Rattle.plans.specs.Lists.{listed, pair_at, rank_of, same_pair}
use Rattle.plans.specs.Closing.{closing, provides, supplier_rank}
use Rattle.plans.specs.Needs.{needed, needed_among, path_requires, serves}
use Rattle.plans.specs.Script.{needed_pairs}
use Rattle.plans.specs.Laws.{InReach, Needed}
use Rattle.plans.proofs.Closed.{Closed}
use Rattle.plans.proofs.Hits.{hit, hit_at, hit_some, hits_both}
use Rattle.plans.proofs.Paths.{path_port, path_supplier}
use Rattle.plans.proofs.Ranks.{any_in, any_found_in, first_passes, listed_at, listed_rank, rank_listed, rank_low, rank_once, same_equal, same_self}

-- a pair serves another exactly if it is the supplier of a port that is required on the other's path
module _ (u : Universe) (l : List Pair) (g h : Pair) where
  pub serves_by : (p : ℕ) → p < u.ports → path_requires u l h p ≡ true → supplier_rank u l p ≡ rank_of l g →
      serves u l g h ≡ true
  unfolding serves
  serves_by p low r e = any_found _ p u.ports low (and_from _ _ r (eq-eqb (supplier_rank u l p) (rank_of l g) e))

  pub serves_some : serves u l g h ≡ true →
      (p : ℕ) × (p < u.ports) × (path_requires u l h p ≡ true) × (supplier_rank u l p ≡ rank_of l g)
  unfolding serves
  serves_some e =
      let f = any_some _ u.ports e in
      let both = and_parts (path_requires u l h f.0) _ f.2 in
      (f.0, f.1, both.0, eqb-true (supplier_rank u l f.0) (rank_of l g) both.1)

-- and then it has the lower rank
pub serves_before : (u : Universe) (l : List Pair) → Closed u l → (g h : Pair) → listed l h ≡ true →
    serves u l g h ≡ true → rank_of l g < rank_of l h
serves_before u l c g h e s =
    let r = serves_some u l g h s in
    let same = r.3 in
    let before = path_supplier u l c h e r.0 r.2 in
    omega arith

-- the needed among pairs with one more in front
module _ (u : Universe) (l goal : List Pair) (x : Pair) (xs : List Pair) where
  -- it is in the goal, or serves a needed one behind it
  abbrev wants : Bool
  wants = listed goal x || list_any (serves u l x) (needed_among u l goal xs)

  among_cases : (h : Pair) → listed (needed_among u l goal (x ∷ xs)) h ≡ true →
      ((h ≡ x) × (wants ≡ true)) ⊎ (listed (needed_among u l goal xs) h ≡ true)
  unfolding needed_among
  among_cases h e = by wants refl e
    where
      by : (b : Bool) → wants ≡ b → listed (cond b (x ∷ needed_among u l goal xs) (needed_among u l goal xs)) h ≡ true →
          ((h ≡ x) × (wants ≡ true)) ⊎ (listed (needed_among u l goal xs) h ≡ true)
      by true w k =
          elim (or_cases (same_pair h x) (listed (needed_among u l goal xs) h) k) [
            | inl p ↦ inl (same_equal h x p, w)
            | inr p ↦ inr p
          ]
      by false w k = inr k

  among_new : wants ≡ true → listed (needed_among u l goal (x ∷ xs)) x ≡ true
  unfolding needed_among
  among_new w = rw w (or_left (same_pair x x) _ (same_self x))

  among_old : (h : Pair) → listed (needed_among u l goal xs) h ≡ true → listed (needed_among u l goal (x ∷ xs)) h ≡ true
  unfolding needed_among
  among_old h e = by wants
    where
      by : (b : Bool) → listed (cond b (x ∷ needed_among u l goal xs) (needed_among u l goal xs)) h ≡ true
      by true = or_right (same_pair h x) _ e
      by false = e

-- ranks with a pair more in front
module _ (x : Pair) (xs : List Pair) where
  rank_head : (h : Pair) → same_pair h x ≡ true → rank_of (x ∷ xs) h ≡ 0
  rank_head h e = rw e

  rank_behind : (h : Pair) → same_pair h x ≡ false → rank_of (x ∷ xs) h ≡ rank_of xs h + 1
  rank_behind h e = rw e (omega arith)

  -- one pair that stands before another is the front one, or stands before it behind the front
  rank_front : (g h : Pair) → rank_of (x ∷ xs) g < rank_of (x ∷ xs) h →
      (same_pair h x ≡ false) × ((g ≡ x) ⊎ (rank_of xs g < rank_of xs h))
  rank_front g h low =
      elim (cases_Bool (same_pair h x)) [
        | inl q ↦ let at = rank_head h q in absurd (omega arith)
        | inr q ↦ (
          q,
          elim (cases_Bool (same_pair g x)) [
            | inl p ↦ inl (same_equal g x p)
            | inr p ↦ let one = rank_behind g p in let other = rank_behind h q in inr (omega arith)
          ],
        )
      ]

module _ (u : Universe) (l goal : List Pair) where
  -- the needed pairs are among the pairs
  among_sub : (xs : List Pair) (h : Pair) → listed (needed_among u l goal xs) h ≡ true → listed xs h ≡ true
  among_sub [] h e = unfold needed_among in e
  among_sub (x ∷ xs) h e =
      elim (among_cases u l goal x xs h e) [
        | inl w ↦ or_left (same_pair h x) _ (rw (w.0) (same_self x))
        | inr p ↦ or_right (same_pair h x) _ (among_sub xs h p)
      ]

  -- those in the goal are needed
  among_goal : (xs : List Pair) (h : Pair) → listed xs h ≡ true → listed goal h ≡ true →
      listed (needed_among u l goal xs) h ≡ true
  among_goal [] h e w = absurd (false≢true e)
  among_goal (x ∷ xs) h e w =
      elim (or_cases (same_pair h x) (listed xs h) e) [
        | inl p ↦
            let same = same_equal h x p in
            rw same (among_new u l goal x xs (or_left (listed goal x) _ (rw same at w)))
        | inr p ↦ among_old u l goal x xs h (among_goal xs h p w)
      ]

  -- and those that serve a needed one behind them
  among_serving : (xs : List Pair) (g h : Pair) → listed (needed_among u l goal xs) h ≡ true → rank_of xs g < rank_of xs h →
      serves u l g h ≡ true → listed (needed_among u l goal xs) g ≡ true
  among_serving [] g h n low s = absurd (omega arith)
  among_serving (x ∷ xs) g h n low s =
      let r = rank_front x xs g h low in
      let behind : listed (needed_among u l goal xs) h ≡ true =
      elim (among_cases u l goal x xs h n) [
        | inl w ↦ absurd (both_ways (same_pair h x) r.0 (rw (w.0) (same_self x)))
        | inr p ↦ p
      ] in
      elim r.1 [
        | inl same ↦
            let found = any_in (needed_among u l goal xs) (serves u l x) h behind (rw same at s) in
            rw same (among_new u l goal x xs (or_right (listed goal x) _ found))
        | inr lower ↦ among_old u l goal x xs g (among_serving xs g h behind lower s)
      ]

  -- whatever holds of the pairs in the goal, and of those that serve one of which it holds, holds of the needed ones
  among_least : (P : Pair → Type 0) → ((h : Pair) → listed goal h ≡ true → P h) →
      ((g h : Pair) → P h → serves u l g h ≡ true → P g) → (xs : List Pair) (h : Pair) →
      listed (needed_among u l goal xs) h ≡ true → P h
  among_least P of_goal of_serving [] h e = absurd (false≢true (unfold needed_among in e))
  among_least P of_goal of_serving (x ∷ xs) h e =
      elim (among_cases u l goal x xs h e) [
        | inl w ↦ rw (w.0) (elim (or_cases (listed goal x) _ w.1) [
          | inl p ↦ of_goal x p
          | inr p ↦
              let s = any_found_in (needed_among u l goal xs) (serves u l x) p in
              of_serving x s.0 (among_least P of_goal of_serving xs s.0 s.1) s.2
        ])
        | inr p ↦ among_least P of_goal of_serving xs h p
      ]

-- no pair stands twice: each stands at its rank
abbrev pub Once : List Pair → Type 0
Once l = (k : ℕ) → k < length l → rank_of l (pair_at l k) ≡ k

-- the pairs ns come in the order of their ranks in l
abbrev pub Rising : List Pair → List Pair → Type 0
Rising l ns = (j k : ℕ) → j < k → k < length ns → rank_of l (pair_at ns j) < rank_of l (pair_at ns k)

module _ (x : Pair) (xs : List Pair) (once : Once (x ∷ xs)) where
  once_behind : (h : Pair) → listed xs h ≡ true → rank_of (x ∷ xs) h ≡ rank_of xs h + 1
  once_behind h e =
      let low = rank_low xs h e in
      rw (add-one) (ap (rank_of (x ∷ xs)) (sym (listed_rank xs h e)) ∙ once (suc (rank_of xs h)) (omega arith))

  once_tail : Once xs
  once_tail k low =
      let at = once (suc k) (omega arith) in
      let behind = once_behind (pair_at xs k) (listed_at xs k low) in
      omega arith

  -- what comes in the order of the ranks in xs does so in x ∷ xs, and behind x
  rising_behind : (ns : List Pair) → ((h : Pair) → listed ns h ≡ true → listed xs h ≡ true) → Rising xs ns →
      Rising (x ∷ xs) ns
  rising_behind ns sub rising j k lt low =
      let before = rising j k lt low in
      let one = once_behind (pair_at ns j) (sub (pair_at ns j) (listed_at ns j (omega arith))) in
      let other = once_behind (pair_at ns k) (sub (pair_at ns k) (listed_at ns k low)) in
      omega arith

  rising_front : (ns : List Pair) → ((h : Pair) → listed ns h ≡ true → listed xs h ≡ true) → Rising xs ns →
      Rising (x ∷ xs) (x ∷ ns)
  rising_front ns sub rising j zero lt low = absurd (omega arith)
  rising_front ns sub rising zero (suc k) lt low =
      let first = rank_head x xs x (same_self x) in
      let behind = once_behind (pair_at ns k) (sub (pair_at ns k) (listed_at ns k (omega arith))) in
      omega arith
  rising_front ns sub rising (suc j) (suc k) lt low = rising_behind ns sub rising j k (omega arith) (omega arith)

-- the needed pairs come in the order of the pairs that they are among
among_rising : (u : Universe) (l goal xs : List Pair) → Once xs → Rising xs (needed_among u l goal xs)
unfolding needed_among
among_rising u l goal [] once = λ j k lt low. absurd (omega arith)
among_rising u l goal (x ∷ xs) once = by (wants u l goal x xs) (among_rising u l goal xs (once_tail x xs once))
  where
    by : (b : Bool) → Rising xs (needed_among u l goal xs) →
        Rising (x ∷ xs) (cond b (x ∷ needed_among u l goal xs) (needed_among u l goal xs))
    by true behind = rising_front x xs once (needed_among u l goal xs) (among_sub u l goal xs) behind
    by false behind = rising_behind x xs once (needed_among u l goal xs) (among_sub u l goal xs) behind

-- of a list in the order of the ranks in another
module _ (l ns : List Pair) (rising : Rising l ns) where
  rising_apart : (j k : ℕ) → j < k → k < length ns → same_pair (pair_at ns k) (pair_at ns j) ≡ false
  rising_apart j k lt low = refuted _ (λ e.
      let before = rising j k lt low in
      let same = ap (rank_of l) (same_equal (pair_at ns k) (pair_at ns j) e) in
      omega arith)

  -- none of its pairs stands twice
  pub rising_once : Once ns
  rising_once k low =
      position_or_len_is (same_pair (pair_at ns k)) ns k (pair 0 0) (omega arith)
      (λ j lt. rising_apart j k lt low) (λ _. same_self (pair_at ns k))

  -- and the ranks in the two compare alike
  pub rising_before : (g h : Pair) → listed ns g ≡ true → listed ns h ≡ true → rank_of l g < rank_of l h →
      rank_of ns g < rank_of ns h
  rising_before g h p q before =
      elim (cases_order (rank_of ns g) (rank_of ns h)) [
        | inl e ↦ let same = ap (rank_of l) (rank_once ns g h p q e) in absurd (omega arith)
        | inr w ↦ elim w [
          | inl lt ↦ lt
          | inr gt ↦
              let other = rising (rank_of ns h) (rank_of ns g) gt (rank_low ns g p) in
              let one = ap (rank_of l) (listed_rank ns g p) in
              let two = ap (rank_of l) (listed_rank ns h q) in
              absurd (omega arith)
        ]
      ]

-- of the pairs ns, g provides the port p and stands before h
pub record Supplies (u : Universe) (ns : List Pair) (h : Pair) (p : ℕ) (g : Pair) : Type 0 where
  pub member : listed ns g ≡ true
  pub gives : provides u p g ≡ true
  pub before : rank_of ns g < rank_of ns h

-- the pairs ns are listed ones, none stands twice, and the supplier of a port that is required on the path of one of
-- them is one before it
pub record Sufficient (u : Universe) (l ns : List Pair) : Type 0 where
  pub sub : (h : Pair) → listed ns h ≡ true → listed l h ≡ true
  pub once : Once ns
  pub supplies : (h : Pair) (p : ℕ) → listed ns h ≡ true → path_requires u l h p ≡ true →
      Supplies u ns h p (pair_at l (supplier_rank u l p))

-- what all listed pairs pass each one passes
all_in : (f : Pair → Bool) (l : List Pair) (h : Pair) → list_all f l ≡ true → listed l h ≡ true → f h ≡ true
all_in f [] h all e = absurd (false≢true e)
all_in f (x ∷ xs) h all e =
    let both = and_parts (f x) (list_all f xs) all in
    elim (or_cases (same_pair h x) (listed xs h) e) [
      | inl p ↦ ap f (same_equal h x p) ∙ both.0
      | inr p ↦ all_in f xs h both.1 p
    ]

module _ (u : Universe) (l goal : List Pair) where
  -- the needed pairs are listed ones
  pub needed_listed : (h : Pair) → listed (needed u l goal) h ≡ true → listed l h ≡ true
  needed_listed h n = among_sub u l goal l h n

  -- the goal's pairs are needed, where they are listed
  pub needed_goal : list_all (listed l) goal ≡ true → (h : Pair) → listed goal h ≡ true → listed (needed u l goal) h ≡ true
  needed_goal reach h w = among_goal u l goal l h (all_in (listed l) goal h reach w) w

  -- a needed pair is in the goal, or supplies a port of the universe
  wanted_or_supplier : (h : Pair) → listed (needed u l goal) h ≡ true →
      (listed goal h ≡ true) ⊎ (hit (supplier_rank u l) u.ports (rank_of l h) ≡ true)
  wanted_or_supplier = among_least u l goal P (λ h w. inl w) (λ g h w s. inr (by g h s)) l
    where
      P : Pair → Type 0
      P h = (listed goal h ≡ true) ⊎ (hit (supplier_rank u l) u.ports (rank_of l h) ≡ true)

      by : (g h : Pair) → serves u l g h ≡ true → hit (supplier_rank u l) u.ports (rank_of l g) ≡ true
      by g h s = let r = serves_some u l g h s in hit_at (supplier_rank u l) u.ports (rank_of l g) r.0 r.1 r.3

module _ (u : Universe) (l : List Pair) (c : Closed u l) (goal : List Pair) where
  -- the needed pairs come by rank
  pub needed_rising : Rising l (needed u l goal)
  needed_rising = among_rising u l goal l c.once

  pub needed_once : Once (needed u l goal)
  needed_once = rising_once l (needed u l goal) needed_rising

  -- a pair that serves a needed one is needed
  pub needed_serving : (g h : Pair) → listed (needed u l goal) h ≡ true → serves u l g h ≡ true →
      listed (needed u l goal) g ≡ true
  needed_serving g h n s =
      among_serving u l goal l g h n (serves_before u l c g h (needed_listed u l goal h n) s) s

  -- there are no more of them than pairs in the goal and ports
  pub needed_few : length (needed u l goal) ≤ length goal + u.ports
  needed_few =
      hits_both of_goal of_port (length goal) u.ports (length ns) (λ k low. place k (listed_at ns k low) (needed_once k low))
    where
      ns : List Pair
      ns = needed u l goal

      of_goal : ℕ → ℕ
      of_goal i = rank_of ns (pair_at goal i)

      of_port : ℕ → ℕ
      of_port p = rank_of ns (pair_at l (supplier_rank u l p))

      place : (k : ℕ) → listed ns (pair_at ns k) ≡ true → rank_of ns (pair_at ns k) ≡ k →
          (hit of_goal (length goal) k ≡ true) ⊎ (hit of_port u.ports k ≡ true)
      place k n own =
          let h = pair_at ns k in
          elim (wanted_or_supplier u l goal h n) [
            | inl w ↦
                let same = listed_rank goal h w in
                inl (hit_at of_goal (length goal) k (rank_of goal h) (rank_low goal h w) (ap (rank_of ns) same ∙ own))
            | inr s ↦
                let r = hit_some (supplier_rank u l) u.ports (rank_of l h) s in
                let same = ap (pair_at l) r.2 ∙ listed_rank l h (needed_listed u l goal h n) in
                inr (hit_at of_port u.ports k r.0 r.1 (ap (rank_of ns) same ∙ own))
          ]

  module _ (v : Valid u) where
    -- the supplier of a port that a needed pair's path requires supplies it
    needed_supplier : (h : Pair) (p : ℕ) → listed (needed u l goal) h ≡ true → path_requires u l h p ≡ true →
        Supplies u (needed u l goal) h p (pair_at l (supplier_rank u l p))
    needed_supplier h p n r =
        let e = needed_listed u l goal h n in
        let before = path_supplier u l c h e p r in
        let low = rank_low l h e in
        let under : supplier_rank u l p < length l = omega arith in
        let rank = c.once (supplier_rank u l p) under in
        let g = pair_at l (supplier_rank u l p) in
        let m = needed_serving g h n (serves_by u l g h p (path_port u l c h e v p r) r (sym rank)) in
        record {
          member = m;
          gives = first_passes (provides u p) l under;
          before = rising_before l (needed u l goal) needed_rising g h m n (omega arith);
        }

    -- so they are sufficient
    pub needed_sufficient : Sufficient u l (needed u l goal)
    needed_sufficient = record { sub = needed_listed u l goal; once = needed_once; supplies = needed_supplier }

-- of the closing order: what the law of needed pairs says
module _ (u : Universe) (c : Closed u (closing u)) (goal : List Pair) (reach : InReach u goal) where
  needed_is : (h : Pair) → Needed u goal h → listed (needed_pairs u goal) h ≡ true
  needed_is h (Needed.wanted w) = needed_goal u (closing u) goal reach h w
  needed_is k (Needed.serving {h} g n e s) = needed_serving u (closing u) c goal g h (needed_is h n) s

  is_needed : (h : Pair) → listed (needed_pairs u goal) h ≡ true → Needed u goal h
  is_needed h n = (among_least u (closing u) goal P of_goal of_serving (closing u) h n).1
    where
      P : Pair → Type 0
      P h = (listed (closing u) h ≡ true) × Needed u goal h

      of_goal : (h : Pair) → listed goal h ≡ true → P h
      of_goal h w = (all_in (listed (closing u)) goal h reach w, Needed.wanted w)

      of_serving : (g h : Pair) → P h → serves u (closing u) g h ≡ true → P g
      of_serving g h p s =
          let before = serves_before u (closing u) c g h p.0 s in
          let low = rank_low (closing u) h p.0 in
          let e = rank_listed (closing u) g (omega arith) in
          (e, Needed.serving g p.1 e s)

  pub needed_law :
      ((h : Pair) → (listed (needed_pairs u goal) h ≡ true) ↔ Needed u goal h) ×
      ((j k : ℕ) → j < k → k < length (needed_pairs u goal) →
      rank_of (closing u) (pair_at (needed_pairs u goal) j) < rank_of (closing u) (pair_at (needed_pairs u goal) k))
  needed_law = (λ h. (is_needed h, needed_is h), needed_rising u (closing u) c goal)
