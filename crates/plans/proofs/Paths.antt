-- The path of a listed pair leads from state 0 over listed pairs of its type to the pair. Assumes nothing.
use Rattle.std.proofs.Common.{List, [], ◌∷◌, ◌++◌, ◌≡◌, ◌≢◌, ℕ, zero, suc, ◌+◌, ◌<◌, ◌≤◌, Bool, true, false, cond, ◌||◌, eqb, length, refl, sym, ap, ◌∙◌, subst, inl, inr, arith}
use mathlib.Core.Bool.{false≢true, or-false}
use Rattle.std.specs.List.{list_any}
use Rattle.std.proofs.lemmas.List.{length-append}
use Rattle.std.proofs.lemmas.List.Folds.{list_any-append}
use Rattle.std.proofs.lemmas.Bool.{and_parts, cases_eq, eq-eqb, eqb-true, ne_eqb, or_cases, or_left, or_right}
use Rattle.model.specs.declared.pair.Pair.{Pair}
use Rattle.model.specs.Config.{pair}
use Rattle.model.specs.Universe.{Universe, Valid}
use Rattle.plans.specs.Lists.{listed, pair_at, rank_of}
use Rattle.plans.specs.Closing.{follows, parent_rank, supplier_rank}
use Rattle.plans.specs.Needs.{path_within, path, path_requires}
use Rattle.plans.specs.Plan.{Plan, Passable, Supplied, last_state}
use Rattle.model.specs.Search.{one, sum_below}
use Rattle.model.proofs.Searches.{refuted}
use Rattle.model.proofs.Sums.{sum_more, sum_most, sum_none}
use Rattle.plans.proofs.Closed.{Closed}
use Rattle.plans.proofs.Ranks.{first_passes, listed_at, rank_low}

-- the states lead to the pair: there are none where its state is 0, else they lead to a listed pair before it, which
-- has it as a successor, and its state is the last
pub data Way (u : Universe) (l : List Pair) : List ℕ → Pair → Type 0 where
  start : {h : Pair} → listed l h ≡ true → h.state ≡ 0 → Way u l [] h
  onward : {h : Pair} {rs : List ℕ} (g : Pair) → Way u l rs g → listed l h ≡ true → h.state ≢ 0 → follows u h g ≡ true →
      rank_of l g < rank_of l h → Way u l (rs ++ (h.state ∷ [])) h

module _ (u : Universe) (l : List Pair) (c : Closed u l) where
  -- g is a listed pair before h, and has it as a successor
  pub record Parent (h g : Pair) : Type 0 where
    pub member : listed l g ≡ true
    pub next : follows u h g ≡ true
    pub before : rank_of l g < rank_of l h

  -- a listed pair with another state than 0 has a parent
  parent : (h : Pair) → listed l h ≡ true → h.state ≢ 0 → Parent h (pair_at l (parent_rank u l h))
  parent h e ne =
      let before = c.parent h e ne in
      let low = rank_low l h e in
      let under : parent_rank u l h < length l = omega arith in
      let same = c.once (parent_rank u l h) under in
      record {
        member = listed_at l (parent_rank u l h) under;
        next = first_passes (follows u h) l under;
        before = omega arith;
      }

  path_within_way : (n : ℕ) (h : Pair) → listed l h ≡ true → rank_of l h < n → Way u l (path_within u l n h) h
  unfolding path_within
  path_within_way zero h e low = absurd (omega arith)
  path_within_way (suc n) h e low =
      elim (cases_eq h.state 0) [
        | inl z ↦ rw (eq-eqb h.state 0 z) (start e z)
        | inr ne ↦
            let p = parent h e ne in
            let before = p.before in
            rw (ne_eqb h.state 0 ne) (onward _ (path_within_way n _ p.member (omega arith)) e ne p.next before)
      ]

  -- the path of a listed pair leads to it
  pub path_way : (h : Pair) → listed l h ≡ true → Way u l (path u l h) h
  path_way h e = path_within_way (length l) h e (rank_low l h e)

-- one state more at the end
last_pushed : (q : ℕ) (rs : List ℕ) (r : ℕ) → last_state q (rs ++ (r ∷ [])) ≡ r
unfolding last_state
last_pushed q [] r = refl
last_pushed q (x ∷ rs) r = last_pushed x rs r

any_last : (f : ℕ → Bool) (rs : List ℕ) (r : ℕ) → list_any f (rs ++ (r ∷ [])) ≡ (list_any f rs || f r)
any_last f rs r = list_any-append f rs (r ∷ []) ∙ ap (λ b. list_any f rs || b) (or-false (f r))

-- from the state q of the type t, each state is a successor of the one before
abbrev pub Successive : Universe → ℕ → ℕ → List ℕ → Type 0
Successive u t q [] = Unit {0}
Successive u t q (r ∷ rs) = (u.next t q r ≡ true) × Successive u t r rs

successive_pushed : (u : Universe) (t q : ℕ) (rs : List ℕ) (r : ℕ) → Successive u t q rs →
    u.next t (last_state q rs) r ≡ true → Successive u t q (rs ++ (r ∷ []))
unfolding last_state
successive_pushed u t q [] r before next = (next, tt)
successive_pushed u t q (x ∷ rs) r before next = (before.0, successive_pushed u t x rs r before.1 next)

-- an instance to which all ports required on the way are supplied can walk over successive states
successive_passable : (u : Universe) (s : Plan) (z q : ℕ) (rs : List ℕ) → Successive u (s.kind z) q rs →
    ((p : ℕ) → list_any (λ r. u.requires (s.kind z) r p) rs ≡ true → Supplied u s z p) → Passable u s z q rs
unfolding Passable
successive_passable u s z q [] lead supplied = tt
successive_passable u s z q (r ∷ rs) lead supplied = (
  lead.0,
  λ p e. supplied p (or_left (u.requires (s.kind z) r p) _ e),
  successive_passable u s z r rs lead.1 (λ p e. supplied p (or_right (u.requires (s.kind z) r p) _ e)),
)

-- the number is 0 or among the states
abbrev marked : List ℕ → ℕ → Bool
marked rs q = eqb q 0 || list_any (λ r. eqb r q) rs

module _ (u : Universe) (l : List Pair) where
  -- it ends in the state of the pair
  way_last : {h : Pair} {rs : List ℕ} → Way u l rs h → last_state 0 rs ≡ h.state
  unfolding last_state
  way_last (start e z) = sym z
  way_last (onward {h} {rs = rs} g w e ne is low) = last_pushed 0 rs h.state

  lead_kind : (g h : Pair) → follows u h g ≡ true → g.kind ≡ h.kind
  lead_kind g h is = eqb-true g.kind h.kind (and_parts (eqb g.kind h.kind) (u.next g.kind g.state h.state) is).0

  -- q is another state than 0 that passes, and is that of a listed pair of the type t, of rank n at most
  pub record OnPath (f : ℕ → Bool) (t n q : ℕ) : Type 0 where
    pub passes : f q ≡ true
    pub other : q ≢ 0
    pub member : listed l (pair t q) ≡ true
    pub rank : rank_of l (pair t q) ≤ n

  on_path_below : (f : ℕ → Bool) (t t' n n' q : ℕ) → t ≡ t' → n ≤ n' → OnPath f t n q → OnPath f t' n' q
  on_path_below f t t' n n' q same le o =
      let rank = o.rank in
      let here : OnPath f t n' q = record { passes = o.passes; other = o.other; member = o.member; rank = omega arith } in
      subst (λ (x : ℕ). OnPath f x n' q) same here

  -- what passes among its states is so
  way_in : (f : ℕ → Bool) {h : Pair} {rs : List ℕ} → Way u l rs h → list_any f rs ≡ true →
      (q : ℕ) × OnPath f h.kind (rank_of l h) q
  way_in f (start e z) found = absurd (false≢true found)
  way_in f (onward {h} {rs = rs} g w e ne is low) found =
      elim (or_cases (list_any f rs) (f h.state) (sym (any_last f rs h.state) ∙ found)) [
        | inl p ↦
            let r = way_in f w p in
            (r.0, on_path_below f g.kind h.kind (rank_of l g) (rank_of l h) r.0 (lead_kind g h is) (omega arith) r.1)
        | inr p ↦ (h.state, record { passes = p; other = ne; member = e; rank = omega arith })
      ]

  way_successive : {h : Pair} {rs : List ℕ} → Way u l rs h → Successive u h.kind 0 rs
  way_successive (start e first) = tt
  way_successive (onward {h} {rs = rs} g w e ne is low) =
      let same = lead_kind g h is in
      let next = (and_parts (eqb g.kind h.kind) (u.next g.kind g.state h.state) is).1 in
      successive_pushed u h.kind 0 rs h.state (rw same at (way_successive w)) (rw (way_last w, ← same) next)

  -- the state of a pair is none of those that lead to a pair before it
  way_new : {g : Pair} {rs : List ℕ} (h : Pair) → Way u l rs g → g.kind ≡ h.kind → rank_of l g < rank_of l h →
      list_any (λ r. eqb r h.state) rs ≡ false
  way_new {g} h w same low = refuted _ (λ found.
      let r = way_in (λ q. eqb q h.state) w found in
      let o = on_path_below _ g.kind h.kind (rank_of l g) (rank_of l g) r.0 same (omega arith) r.1 in
      let rank = o.rank in
      let e = ap (λ q. rank_of l (pair h.kind q)) (eqb-true r.0 h.state o.passes) in
      omega arith)

  module _ (c : Closed u l) where
    -- they all differ, and none is 0
    way_counted : {h : Pair} {rs : List ℕ} → Way u l rs h →
        sum_below (λ q. one (marked rs q)) (u.states h.kind) ≡ length rs + 1
    way_counted (start {h} e z) =
        let pair = (c.pairs h e).1 in
        let none = sum_none (λ q. 0) (u.states h.kind) (λ y. refl) in
        sum_more (λ q. 0) (λ q. one (marked [] q)) 0 (u.states h.kind) (omega arith) (λ y ne. rw (ne_eqb y 0 ne)) refl
        ∙ ap (λ n. n + 1) none
    way_counted (onward {h} {rs = rs} g w e ne is low) =
        let same = lead_kind g h is in
        let before = rw same at (way_counted w) in
        let long = length-append rs (h.state ∷ []) in
        let new = way_new h w same low in
        let more =
        sum_more (λ q. one (marked rs q)) (λ q. one (marked (rs ++ (h.state ∷ [])) q)) h.state (u.states h.kind)
        (c.pairs h e).1
        (λ y off. rw (any_last (λ r. eqb r y) rs h.state, ne_eqb h.state y (λ k. off (sym k)))
        (ap (λ b. one (eqb y 0 || b)) (or-false (list_any (λ r. eqb r y) rs))))
        (rw (any_last (λ r. eqb r h.state) rs h.state, new, ne_eqb h.state 0 ne, eq-eqb h.state h.state refl)) in
        omega arith

module _ (u : Universe) (l : List Pair) (c : Closed u l) (h : Pair) (e : listed l h ≡ true) where
  -- the path of a listed pair ends in its state
  pub path_last : last_state 0 (path u l h) ≡ h.state
  path_last = way_last u l (path_way u l c h e)

  -- a state of it that passes is another than 0, and that of a listed pair of the same type, with no higher rank
  pub path_in : (f : ℕ → Bool) → list_any f (path u l h) ≡ true → (q : ℕ) × OnPath u l f h.kind (rank_of l h) q
  path_in f found = way_in u l f (path_way u l c h e) found

  pub path_listed : (q : ℕ) → list_any (λ r. eqb r q) (path u l h) ≡ true →
      (listed l (pair h.kind q) ≡ true) × (rank_of l (pair h.kind q) ≤ rank_of l h)
  path_listed q found =
      let r = path_in (λ r. eqb r q) found in
      let same : r.0 ≡ q = eqb-true r.0 q r.1.passes in
      (rw same at r.1.member, rw same at r.1.rank)

  -- each of its states is a successor of the one before, and the first one of state 0
  pub path_successive : Successive u h.kind 0 (path u l h)
  path_successive = way_successive u l (path_way u l c h e)

  -- so an instance of its type, to which all ports required on it are supplied, can walk over it
  pub path_passable : (s : Plan) (z : ℕ) → s.kind z ≡ h.kind →
      ((p : ℕ) → path_requires u l h p ≡ true → Supplied u s z p) → Passable u s z 0 (path u l h)
  path_passable s z k supplied =
      successive_passable u s z 0 (path u l h) (rw k path_successive) (λ p r. supplied p (rw k at r))

  -- it has fewer states than the type
  pub path_length : length (path u l h) < u.states h.kind
  path_length =
      let most = sum_most (marked (path u l h)) (u.states h.kind) in
      omega (arith, way_counted u l c (path_way u l c h e))

  pub path_short : Valid u → length (path u l h) ≤ 7
  path_short v =
      let fewer = path_length in
      let most = (v.states h.kind (c.pairs h e).0).1 in
      omega arith

  -- whatever is required on it is a port of the universe, and its supplier stands before the pair
  pub path_supplier : (p : ℕ) → path_requires u l h p ≡ true → supplier_rank u l p < rank_of l h
  path_supplier p r =
      let found = path_in (λ q. u.requires h.kind q p) r in
      let rank = found.1.rank in
      let before = c.supplier (pair h.kind found.0) p found.1.member found.1.passes in
      omega arith

  pub path_port : Valid u → (p : ℕ) → path_requires u l h p ≡ true → p < u.ports
  path_port v p r = let found = path_in (λ q. u.requires h.kind q p) r in (v.requires h.kind found.0 p found.1.passes).1

-- the path of a pair with state 0 has no states; that of another pair is its parent's path, and then its own state
module _ (u : Universe) (l : List Pair) (c : Closed u l) where
  path_within_enough : (n m : ℕ) (h : Pair) → listed l h ≡ true → rank_of l h < n → rank_of l h < m →
      path_within u l n h ≡ path_within u l m h
  unfolding path_within
  path_within_enough zero m h e low under = absurd (omega arith)
  path_within_enough (suc n) zero h e low under = absurd (omega arith)
  path_within_enough (suc n) (suc m) h e low under =
      elim (cases_eq h.state 0) [
        | inl z ↦ rw (eq-eqb h.state 0 z)
        | inr ne ↦
            let p = parent u l c h e ne in
            let before = p.before in
            ap (λ before. cond (eqb h.state 0) [] (before ++ (h.state ∷ [])))
            (path_within_enough n m (pair_at l (parent_rank u l h)) p.member (omega arith) (omega arith))
      ]

  path_again : (h : Pair) → listed l h ≡ true → path u l h ≡ path_within u l (suc (length l)) h
  path_again h e = let low = rank_low l h e in path_within_enough (length l) (suc (length l)) h e low (omega arith)

  pub path_first : (h : Pair) → listed l h ≡ true → h.state ≡ 0 → path u l h ≡ []
  unfolding path_within
  path_first h e z = path_again h e ∙ rw (eq-eqb h.state 0 z)

  pub path_more : (h : Pair) → listed l h ≡ true → h.state ≢ 0 →
      path u l h ≡ path u l (pair_at l (parent_rank u l h)) ++ (h.state ∷ [])
  unfolding path_within
  path_more h e ne = path_again h e ∙ rw (ne_eqb h.state 0 ne)
