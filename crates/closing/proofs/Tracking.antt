-- What the sets beside a list of pairs tell, as the list grows. Assumes nothing.
use Rattle.std.proofs.Common.{◌≡◌, ℕ, zero, suc, ◌+◌, ◌-◌, ◌/◌, ◌^◌, ◌<◌, ◌≤◌, Bool, true, false, not, ◌&&◌, ◌||◌, eqb, List, [], ◌∷◌, ◌++◌, length, get_or, set, take, replicate, None, refl, sym, ap, ◌∙◌, inl, inr, arith}
use mathlib.Core.Bool.{or-false}
use lib.Bits.{bit_and, bit_or}
use Rattle.std.specs.Int.{bit_not, w8}
use Rattle.std.specs.List.{list_any}
use Rattle.std.proofs.Math.Bool.{and_assoc, and_comm}
use Rattle.std.proofs.lemmas.Bool.{and_parts, both_ways, cases_Bool, cases_eq, eq-eqb, ne_eqb}
use Rattle.std.proofs.lemmas.List.{get_or-set_same, get_or-set_other, length-set, length-replicate, length-take-le, take_more_set}
use Rattle.model.specs.declared.pair.Pair.{Pair}
use Rattle.model.specs.Config.{pair}
use Rattle.model.specs.Search.{any}
use Rattle.model.specs.Universe.{IsPair, Universe as Model, Valid}
use Rattle.model.proofs.Ranges.{first_upto}
use Rattle.model.proofs.Searches.{any_found, any_none_of, any_some}
use Rattle.universe.specs.declared.held.Universe.{Universe}
use Rattle.universe.specs.Held.{universe_in}
use Rattle.universe.proofs.Sounds.{sound}
use Rattle.universe.specs.declared.tables.State.{State}
use Rattle.universe.specs.declared.tables.Tables.{Tables}
use Rattle.universe.specs.Sets.{has}
use Rattle.universe.specs.Tables.{entry_at, universe_of}
use Rattle.plans.specs.Lists.{listed, same_pair, some_if}
use Rattle.plans.specs.Closing.{addable, lacks, follows, provides}
use Rattle.plans.proofs.Ranks.{any_pushed}
use Rattle.closing.specs.declared.listing.Listing.{Listing}
use Rattle.closing.specs.Listing.{Lists, Sets, Waits, exceeds, next_of, pairs_of}
use Rattle.closing.specs.Places.{Places}
use Rattle.closing.proofs.Masks.{has_and_not, has_none, has_or, has_single}

-- two searches agree where their tests do, if nothing passes from the lower bound on
any_bound : (f g : ℕ → Bool) (m n : ℕ) → n ≤ m → ((p : ℕ) → f p ≡ g p) → ((p : ℕ) → g p ≡ true → p < n) → any f m ≡ any g n
any_bound f g m n le same low =
    elim (cases_Bool (any g n)) [
      | inl some ↦ let r = any_some g n some in let l = r.1 in rw some (any_found f r.0 m (omega arith) (same r.0 ∙ r.2))
      | inr none ↦ rw none (any_none_of f m (λ p _ e. let passes = sym (same p) ∙ e in both_ways (any g n) none (any_found g p n (low p passes) passes)))
    ]

-- an array of empty sets has nothing
none_at : (w n k q : ℕ) → has w (get_or (replicate n 0) k 0) q ≡ false
none_at w zero k q = has_none w q
none_at w (suc n) zero q = has_none w q
none_at w (suc n) (suc k) q = none_at w n k q

pub sets_none : (t : Tables) → Sets t [] 0 (replicate 16 0) (replicate 16 0)
sets_none t =
    record {
      marks = refl;
      leads_marks = refl;
      provided_ports = λ p. has_none 32 p;
      listed_pairs = λ k q. none_at 8 16 k q;
      led_pairs = λ k q. none_at 8 16 k q;
    }

-- one state alone
single_at : (q p : ℕ) → q < 8 → has 8 (128 / 2 ^ q) p ≡ eqb p q
single_at q p l = ap (λ n. has 8 n p) (power q l) ∙ has_single 8 q p l
  where
    power : (q : ℕ) → q < 8 → 128 / 2 ^ q ≡ 2 ^ (8 - 1 - q)
    power zero l = refl
    power (suc zero) l = refl
    power (suc (suc zero)) l = refl
    power (suc (suc (suc zero))) l = refl
    power (suc (suc (suc (suc zero)))) l = refl
    power (suc (suc (suc (suc (suc zero))))) l = refl
    power (suc (suc (suc (suc (suc (suc zero)))))) l = refl
    power (suc (suc (suc (suc (suc (suc (suc zero))))))) l = refl
    power (suc (suc (suc (suc (suc (suc (suc (suc q)))))))) l = absurd (omega arith)

-- with a pair more
module _ (t : Tables) (l : List Pair) (h : Pair) where
  pub provided_more : (provided p : ℕ) → has 32 provided p ≡ list_any (provides (universe_of t) p) l →
      has 32 (bit_or provided (entry_at t h.kind h.state).provided) p ≡ list_any (provides (universe_of t) p) (l ++ (h ∷ []))
  provided_more provided p e = has_or 32 provided _ p ∙ ap (λ b. b || has 32 (entry_at t h.kind h.state).provided p) e ∙ sym (any_pushed l h (provides (universe_of t) p))

  module _ (marks : List ℕ) (k q : ℕ) (long : length marks ≡ 16) (low : h.kind < 16) where
    -- in the set of the pair's type
    at_kind : (s : ℕ) → k ≡ h.kind → has 8 (get_or (set marks h.kind (bit_or (get_or marks h.kind 0) s)) k 0) q ≡ (has 8 (get_or marks k 0) q || has 8 s q)
    at_kind s e =
        rw (e, get_or-set_same marks h.kind (bit_or (get_or marks h.kind 0) s) 0 (omega arith)) (has_or 8 (get_or marks h.kind 0) s q)

    off_kind : (s : ℕ) → (k ≡ h.kind → ⊥) → has 8 (get_or (set marks h.kind s) k 0) q ≡ has 8 (get_or marks k 0) q
    off_kind s ne = rw (get_or-set_other marks h.kind k s 0 ne)

    pub listed_more : h.state < 8 → has 8 (get_or marks k 0) q ≡ listed l (pair k q) →
        has 8 (get_or (set marks h.kind (bit_or (get_or marks h.kind 0) (128 / 2 ^ h.state))) k 0) q ≡ listed (l ++ (h ∷ [])) (pair k q)
    listed_more small e =
        rw (any_pushed l h (same_pair (pair k q)), ← e)
        (elim (cases_eq k h.kind) [
          | inl same ↦ rw (at_kind (128 / 2 ^ h.state) same, single_at h.state q small, eq-eqb k h.kind same)
          | inr other ↦ rw (off_kind _ other, ne_eqb k h.kind other) (sym (or-false _))
        ])

    pub led_more : has 8 (get_or marks k 0) q ≡ list_any (follows (universe_of t) (pair k q)) l →
        has 8 (get_or (set marks h.kind (bit_or (get_or marks h.kind 0) (entry_at t h.kind h.state).successors)) k 0) q ≡
        list_any (follows (universe_of t) (pair k q)) (l ++ (h ∷ []))
    led_more e =
        rw (any_pushed l h (follows (universe_of t) (pair k q)), ← e)
        (elim (cases_eq k h.kind) [
          | inl same ↦ rw (at_kind (entry_at t h.kind h.state).successors same, eq-eqb h.kind k (sym same))
          | inr other ↦ rw (off_kind _ other, ne_eqb h.kind k (λ e. other (sym e))) (sym (or-false _))
        ])

pub sets_push : (t : Tables) (l : List Pair) (h : Pair) (provided : ℕ) (marks led : List ℕ) → h.kind < 16 → h.state < 8 →
    Sets t l provided marks led →
    Sets t (l ++ (h ∷ [])) (bit_or provided (entry_at t h.kind h.state).provided)
    (set marks h.kind (bit_or (get_or marks h.kind 0) (128 / 2 ^ h.state)))
    (set led h.kind (bit_or (get_or led h.kind 0) (entry_at t h.kind h.state).successors))
sets_push t l h provided marks led low small s =
    record {
      marks = length-set marks h.kind _ ∙ s.marks;
      leads_marks = length-set led h.kind _ ∙ s.leads_marks;
      provided_ports = λ p. provided_more t l h provided p (s.provided_ports p);
      listed_pairs = λ k q. listed_more t l h marks k q s.marks low small (s.listed_pairs k q);
      led_pairs = λ k q. led_more t l h led k q s.leads_marks low (s.led_pairs k q);
    }

-- the listing tells by its sets what its pairs tell
module _ (h : Universe) (s : Listing) (p : Pair) (lists : Lists h.tables (pairs_of s) s) where
  pub lack_told : exceeds (entry_at h.tables p.kind p.state).required s.provided ≡ lacks (universe_in h) (pairs_of s) p
  unfolding exceeds lacks
  lack_told =
      any_bound _ _ 32 (universe_in h).ports valid.ports
      (λ q. ap (λ b. has 32 (entry_at h.tables p.kind p.state).required q && not b) (lists.sets.provided_ports q))
      (λ q e. let w = and_parts (has 32 (entry_at h.tables p.kind p.state).required q) _ e in (valid.requires p.kind p.state q w.0).1)
    where
      valid : Valid (universe_in h)
      valid = (sound h.tables h.sound).valid

-- the states that wait, by the sets
pub waiting_told : (h : Universe) (s : Listing) (k a b : ℕ) → b < 2 ^ 8 → a ≡ get_or s.led k 0 → b ≡ get_or s.listed k 0 →
    Lists h.tables (pairs_of s) s → Waits (universe_in h) (pairs_of s) k (bit_and a (bit_not w8 b))
waiting_told h s k a b small after before lists = λ q.
    has_and_not w8 a b small q
    ∙ and_comm (has 8 a q) (not (has 8 b q))
    ∙ ap (λ x. not (has 8 x q) && has 8 a q) before ∙ ap (λ x. not (has 8 (get_or s.listed k 0) q) && has 8 x q) after
    ∙ ap (λ x. not x && has 8 (get_or s.led k 0) q) (lists.sets.listed_pairs k q)
    ∙ ap (λ x. not (listed (pairs_of s) (pair k q)) && x) (lists.sets.led_pairs k q)

-- a pair can be added exactly if it waits and lacks nothing
module _ (u : Model) (l : List Pair) (k waiting : ℕ) (waits : Waits u l k waiting) where
  pub addable_told : (q : ℕ) → (has 8 waiting q && not (lacks u l (pair k q))) ≡ addable u l (pair k q)
  unfolding addable
  addable_told q =
      ap (λ b. b && not (lacks u l (pair k q))) (waits q)
      ∙ and_assoc (not (listed l (pair k q))) (list_any (follows u (pair k q)) l) (not (lacks u l (pair k q)))

  -- where none waits, none can be added
  pub none_waiting : waiting ≡ 0 → None ≡ next_of u l k
  none_waiting none =
      sym (first_upto _ (u.states k) (λ q low.
      ap (λ b. some_if b (pair k q))
      (sym (addable_told q) ∙ ap (λ n. has 8 n q && not (lacks u l (pair k q))) none ∙ ap (λ b. b && not (lacks u l (pair k q))) (has_none 8 q))))

-- the places with a pair more
pub places_push : (places : List Pair) (len : ℕ) (h : Pair) → len < 128 →
    Places (take len places) places len → Places (take len places ++ (h ∷ [])) (set places len h) (len + 1)
places_push places len h low p =
    record {
      room = length-set places len h ∙ p.room;
      within = omega arith;
      kept = take_more_set places len h (omega (arith, p.room));
    }

pub lists_none : (t : Tables) (nothing : Pair) → Lists t [] (record { places = replicate 128 nothing; len = 0; provided = 0; listed = replicate 16 0; led = replicate 16 0 })
lists_none t nothing =
    record {
      places = record { room = length-replicate 128 nothing; within = omega arith; kept = refl };
      sets = sets_none t;
    }

pub lists_push : (t : Tables) (s : Listing) (h : Pair) (entry : State) (one : ℕ) → s.len < 128 → h.kind < 16 → h.state < 8 →
    entry ≡ entry_at t h.kind h.state → one ≡ 128 / 2 ^ h.state → Lists t (pairs_of s) s →
    Lists t (pairs_of s ++ (h ∷ [])) (record {
      places = set s.places s.len h;
      len = s.len + 1;
      provided = bit_or s.provided entry.provided;
      listed = set s.listed h.kind (bit_or (get_or s.listed h.kind 0) one);
      led = set s.led h.kind (bit_or (get_or s.led h.kind 0) entry.successors);
    })
lists_push t s h entry one low kind state is alone lists =
    rw (is, alone)
    (record {
      places = places_push s.places s.len h low lists.places;
      sets = sets_push t (pairs_of s) h s.provided s.listed s.led kind state lists.sets;
    })

-- the numbers of a pair of the universe are small
pub pair_small : (h : Universe) (k q : ℕ) → IsPair (universe_in h) k q → (k < 16) × (q < 8)
pair_small h k q (low, at) =
    let v = (sound h.tables h.sound).valid in
    let few = (v.states k low).1 in
    let types = v.types.1 in
    (omega arith, omega arith)

-- the listing has as many pairs as it counts
pub places_length : (l places : List Pair) (len : ℕ) → Places l places len → length l ≡ len
places_length l places len p = ap length (sym p.kept) ∙ length-take-le len places (omega (arith, p.room, p.within))

pub lists_tracks : (t : Tables) (l : List Pair) (s : Listing) → Lists t l s → Lists t (pairs_of s) s
lists_tracks t l s lists = rw lists.places.kept lists
