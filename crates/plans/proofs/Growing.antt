-- What one turn of the growing adds, what it keeps, and that the growing ends with nothing to add. Assumes nothing.
use Rattle.std.proofs.Common.{List, [], ◌∷◌, ◌++◌, ◌≡◌, ℕ, zero, suc, ◌+◌, ◌<◌, ◌≤◌, Bool, true, false, not, length, ◌⊎◌, ◌≢◌, Some, None, Option, refl, sym, ap, ◌∙◌, subst, inl, inr, arith}
use mathlib.Core.Bool.{false≢true, or-false}
use Rattle.std.specs.List.{list_any, position_or_len}
use Rattle.std.proofs.lemmas.Bool.{and_from, and_parts, both_ways, cases_Bool, cases_lt, not_from_false, not-true}
use Rattle.model.specs.declared.pair.Pair.{Pair}
use Rattle.model.specs.Config.{pair}
use Rattle.model.specs.Search.{one, sum_below}
use Rattle.model.specs.Universe.{Universe, IsPair, Valid}
use Rattle.model.proofs.Searches.{any_found, any_none_of, first_no, first_some, refuted}
use Rattle.model.proofs.Sums.{sum_le, sum_more, sum_most, sum_none, sum_same}
use Rattle.plans.specs.Lists.{listed, lists_below, pair_at, rank_of, same_pair, some_if}
use Rattle.plans.specs.Closing.{addable, grown, grown_with, lacks, follows, next_pair, pair_count, parent_rank, provides, supplier_rank}
use Rattle.plans.proofs.Ranks.{any_first, any_kept, any_pushed, at_new, at_pushed, first_kept, length_pushed, listed_new, listed_pushed, rank_low, rank_new, same_equal}

-- what a test finds passes it
some_if_some : {X : Type 0} (b : Bool) (x y : X) → some_if b x ≡ Some y → (b ≡ true) × (x ≡ y)
some_if_some true x y e = (refl, cc)
some_if_some false x y e = absurd (let z : ◌≡◌ {A = ℕ} 0 1 = cc in omega arith)

some_if_none : {X : Type 0} (b : Bool) (x : X) → some_if b x ≡ None → b ≡ false
some_if_none true x e = absurd (let z : ◌≡◌ {A = ℕ} 0 1 = cc in omega arith)
some_if_none false x e = refl

-- each port that the pair requires has a listed provider
abbrev pub AllProvided : Universe → List Pair → Pair → Type 0
AllProvided u l h = (p : ℕ) → u.requires h.kind h.state p ≡ true → list_any (provides u p) l ≡ true

-- all that the pair needs is listed: a pair that has it as a successor, and those providers
pub record Ready (u : Universe) (l : List Pair) (h : Pair) : Type 0 where
  pub lead : list_any (follows u h) l ≡ true
  pub ports : AllProvided u l h

module _ (u : Universe) (l : List Pair) where
  -- where the pair lacks no port, each that it requires is provided
  pub not_lacking : Valid u → (h : Pair) → lacks u l h ≡ false → AllProvided u l h
  unfolding lacks
  not_lacking ok h out p e =
      elim (cases_Bool (list_any (provides u p) l)) [
        | inl there ↦ there
        | inr none ↦ absurd (both_ways (lacks u l h) out
            (any_found _ p u.ports (ok.requires h.kind h.state p e).1 (and_from _ _ e (not_from_false _ none))))
      ]

  -- and if each is provided, the pair lacks none
  pub lacks_none : (h : Pair) → AllProvided u l h → lacks u l h ≡ false
  unfolding lacks
  lacks_none h all =
      any_none_of _ u.ports (λ p low e.
      let w = and_parts (u.requires h.kind h.state p) _ e in
      both_ways (list_any (provides u p) l) (not-true _ w.1) (all p w.0))

  -- a pair that can be added is not listed, and all that it needs is
  pub addable_ready : Valid u → (h : Pair) → addable u l h ≡ true → (listed l h ≡ false) × Ready u l h
  unfolding addable
  addable_ready ok h e =
      let v = and_parts (not (listed l h)) _ e in
      let w = and_parts (list_any (follows u h) l) _ v.1 in
      (not-true _ v.0, record { lead = w.0; ports = not_lacking ok h (not-true _ w.1) })

  -- and that is enough
  pub ready_addable : (h : Pair) → listed l h ≡ false → Ready u l h → addable u l h ≡ true
  unfolding addable
  ready_addable h out ready =
      and_from _ _ (not_from_false _ out) (and_from _ _ ready.lead (not_from_false _ (lacks_none h ready.ports)))

  -- the next pair is a pair of the universe that can be added
  pub next_some : (h : Pair) → next_pair u l ≡ Some h → IsPair u h.kind h.state × (addable u l h ≡ true)
  unfolding next_pair
  next_some h e =
      let r = first_some _ u.types h e in
      let s = first_some _ (u.states r.0) h r.2 in
      let f = some_if_some _ (pair r.0 s.0) h s.2 in
      let P : Pair → Type 0 = λ g. IsPair u g.kind g.state × (addable u l g ≡ true) in
      subst P f.1 ((r.1, s.1), f.0)

  -- where there is no next pair, none can be added
  pub next_none : next_pair u l ≡ None → (h : Pair) → IsPair u h.kind h.state → addable u l h ≡ false
  unfolding next_pair
  next_none e h is =
      let row = first_no _ h.kind u.types e is.0 in
      some_if_none _ (pair h.kind h.state) (first_no _ h.state (u.states h.kind) row is.1)

-- how many pairs of the universe are listed
unfoldable pub listed_count : Universe → List Pair → ℕ
listed_count u l = sum_below (λ t. sum_below (λ q. one (listed l (pair t q))) (u.states t)) u.types

-- the first pair that passes stands before the pair g
abbrev pub Before : List Pair → (Pair → Bool) → Pair → Type 0
Before l f g = position_or_len f l < rank_of l g

-- with a pair more at the end
module _ (l : List Pair) (h : Pair) where
  -- another pair is listed as before
  pub listed_other : (g : Pair) → (g ≡ h → ⊥) → listed (l ++ (h ∷ [])) g ≡ listed l g
  listed_other g ne =
      any_pushed l h (same_pair g) ∙
      rw (refuted (same_pair g h) (λ e. ne (same_equal g h e))) (or-false (listed l g))

  -- the first that passes, where it stands before a listed pair, does so still
  pub before_kept : (f : Pair → Bool) (g : Pair) → listed l g ≡ true → Before l f g → Before (l ++ (h ∷ [])) f g
  before_kept f g e before =
      let low = rank_low l g e in
      let k = first_kept l h (same_pair g) low in
      let j = first_kept l h f (omega arith) in
      omega arith

  -- what a search finds stands before the new pair
  pub before_new : (f : Pair → Bool) → listed l h ≡ false → list_any f l ≡ true → Before (l ++ (h ∷ [])) f h
  before_new f out e =
      let low = any_first f l e in
      let k = rank_new l h out in
      let j = first_kept l h f low in
      omega arith

  -- a new pair of the universe is one more
  pub listed_count_pushed : (u : Universe) → IsPair u h.kind h.state → listed l h ≡ false →
      listed_count u (l ++ (h ∷ [])) ≡ listed_count u l + 1
  unfolding listed_count
  listed_count_pushed u is out =
      sum_more _ _ h.kind u.types is.0
      (λ t ne. sum_same _ _ (u.states t) (λ q.
      ap one (listed_other (pair t q) (λ e. ne (ap (λ (g : Pair). g.kind) e)))))
      (sum_more _ _ h.state (u.states h.kind) is.1
      (λ q ne. ap one (listed_other (pair h.kind q) (λ e. ne (ap (λ (g : Pair). g.state) e))))
      (rw (out, listed_new l h)))

-- what every list on the way keeps to: it lists pairs of the universe, none twice, and what a listed pair needs stands
-- before it
pub record Sound (u : Universe) (l : List Pair) : Type 0 where
  pub pairs : (h : Pair) → listed l h ≡ true → IsPair u h.kind h.state
  pub once : (k : ℕ) → k < length l → rank_of l (pair_at l k) ≡ k
  pub count : length l ≡ listed_count u l
  pub parent : (h : Pair) → listed l h ≡ true → h.state ≢ 0 → parent_rank u l h < rank_of l h
  pub supplier : (h : Pair) (p : ℕ) → listed l h ≡ true → u.requires h.kind h.state p ≡ true →
      supplier_rank u l p < rank_of l h

module _ (u : Universe) where
  -- the empty list is sound
  pub sound_empty : Sound u []
  unfolding listed_count
  sound_empty =
      record {
        pairs = λ h e. absurd (false≢true e);
        once = λ k low. absurd (omega arith);
        count = sym (sum_none _ u.types (λ t. sum_none _ (u.states t) (λ q. refl)));
        parent = λ h e s. absurd (false≢true e);
        supplier = λ h p e r. absurd (false≢true e);
      }

  -- a sound list stays sound with a new pair of the universe behind it, if all that the pair needs is listed; with
  -- state 0 it needs no parent
  pub sound_pushed : (l : List Pair) (h : Pair) → Sound u l → IsPair u h.kind h.state → listed l h ≡ false →
      (h.state ≢ 0 → list_any (follows u h) l ≡ true) → AllProvided u l h → Sound u (l ++ (h ∷ []))
  sound_pushed l h s is out lead ports =
      record {
        pairs = each (λ g. IsPair u g.kind g.state) s.pairs is;
        once = once;
        count = omega (arith, length_pushed l h, listed_count_pushed l h u is out, s.count);
        parent = each (λ g. g.state ≢ 0 → Before m (follows u g) g)
            (λ g e n. before_kept l h (follows u g) g e (s.parent g e n))
            (λ n. before_new l h (follows u h) out (lead n));
        supplier = λ g p. each (λ g. u.requires g.kind g.state p ≡ true → Before m (provides u p) g)
            (λ g e r. before_kept l h (provides u p) g e (s.supplier g p e r))
            (λ r. before_new l h (provides u p) out (ports p r)) g;
      }
    where
      m : List Pair
      m = l ++ (h ∷ [])

      -- what holds of each pair that was listed and of the new one
      each : (P : Pair → Type 0) → ((g : Pair) → listed l g ≡ true → P g) → P h → (g : Pair) → listed m g ≡ true → P g
      each P old new g e = elim (listed_pushed l h g e) [ inl p ↦ old g p | inr q ↦ subst P (sym q) new ]

      once : (k : ℕ) → k < length m → rank_of m (pair_at m k) ≡ k
      once k low =
          elim (cases_lt k (length l)) [
            | inl lt ↦
                let same = s.once k lt in
                rw (at_pushed l h k lt) (first_kept l h (same_pair (pair_at l k)) (omega arith) ∙ same)
            | inr ge ↦
                let e : k ≡ length l = omega (arith, length_pushed l h) in
                rw (e, at_new l h) (rank_new l h out)
          ]

-- no more pairs are listed than there are
pub listed_count_most : (u : Universe) (l : List Pair) → listed_count u l ≤ pair_count u
unfolding listed_count
listed_count_most u l = sum_le _ _ u.types (λ t. sum_most (λ q. listed l (pair t q)) (u.states t))

-- the pairs with state 0 of the types below n
abbrev pub initial_below : ℕ → List Pair
initial_below n = lists_below (λ t. pair t 0 ∷ []) n

-- only types below n are listed
pub initial_kind : (n : ℕ) (h : Pair) → listed (initial_below n) h ≡ true → h.kind < n
unfolding lists_below
initial_kind zero h e = absurd (false≢true e)
initial_kind (suc n) h e =
    elim (listed_pushed (initial_below n) (pair n 0) h e) [
      | inl p ↦ let low = initial_kind n h p in omega arith
      | inr q ↦ let same : h.kind ≡ n = ap (λ (g : Pair). g.kind) q in omega arith
    ]

-- each is listed
pub initial_listed : (n t : ℕ) → t < n → listed (initial_below n) (pair t 0) ≡ true
unfolding lists_below
initial_listed zero t low = absurd (omega arith)
initial_listed (suc n) t low =
    elim (cases_lt t n) [
      | inl lt ↦ any_kept (initial_below n) (pair n 0) (same_pair (pair t 0)) (initial_listed n t lt)
      | inr ge ↦ let same : t ≡ n = omega arith in rw same (listed_new (initial_below n) (pair n 0))
    ]

-- there are n
pub initial_length : (n : ℕ) → length (initial_below n) ≡ n
unfolding lists_below
initial_length zero = refl
initial_length (suc n) = omega (arith, length_pushed (initial_below n) (pair n 0), initial_length n)

-- they are sound: state 0 needs nothing
pub initial_sound : (u : Universe) → Valid u → (n : ℕ) → n ≤ u.types → Sound u (initial_below n)
unfolding lists_below
initial_sound u ok zero low = sound_empty u
initial_sound u ok (suc n) low =
    sound_pushed u (initial_below n) (pair n 0) (initial_sound u ok n (omega arith))
    (omega arith, (ok.states n (omega arith)).0)
    (refuted _ (λ e. let below = initial_kind n (pair n 0) e in absurd (omega arith)))
    (λ s. absurd (s refl))
    (λ p r. absurd (both_ways (u.requires n 0 p) (ok.initial n p) r))

-- a sound list m that n turns may lead to from l: all that was listed is listed, and either nothing can be added, or
-- each turn added a pair
pub record Turned (u : Universe) (n : ℕ) (l m : List Pair) : Type 0 where
  pub sound : Sound u m
  pub kept : (h : Pair) → listed l h ≡ true → listed m h ≡ true
  pub end : (next_pair u m ≡ None) ⊎ (length m ≡ length l + n)

-- the growing leads to such a list
pub turned : (u : Universe) → Valid u → (n : ℕ) (l : List Pair) → Sound u l → Turned u n l (grown u n l)
unfolding grown
turned u ok zero l s = record { sound = s; kept = λ h e. e; end = inr (omega arith) }
turned u ok (suc n) l s = by (next_pair u l) refl (turned u ok n)
  where
    by : (o : Option Pair) → next_pair u l ≡ o → ((m : List Pair) → Sound u m → Turned u n m (grown u n m)) →
        Turned u (suc n) l (grown_with o l (grown u n))
    by None e further = record { sound = s; kept = λ h p. p; end = inl e }
    by (Some h) e further =
        let next = next_some u l h e in
        let (out, ready) = addable_ready u l ok h next.1 in
        let t = further (l ++ (h ∷ [])) (sound_pushed u l h s next.0 out (λ _. ready.lead) ready.ports) in
        record {
          sound = t.sound;
          kept = λ g p. t.kept g (any_kept l h (same_pair g) p);
          end = elim t.end [ inl still ↦ inl still | inr long ↦ inr (omega (arith, length_pushed l h)) ];
        }
