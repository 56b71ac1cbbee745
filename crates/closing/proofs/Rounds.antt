-- The turns of the closing order, as the code takes them. Assumes nothing.
use Rattle.std.proofs.Common.{◌≡◌, ℕ, zero, suc, ◌+◌, ◌<◌, ◌≤◌, List, [], ◌∷◌, ◌++◌, length, Some, None, refl, sym, ap, ◌∙◌, subst, add-one, arith}
use Rattle.model.specs.declared.pair.Pair.{Pair}
use Rattle.model.specs.Config.{pair}
use Rattle.model.specs.Universe.{Universe, IsPair, Valid}
use Rattle.plans.specs.Closing.{closing, grown, grown_with, initial_pairs, next_pair, pair_count}
use Rattle.universe.specs.declared.tables.Tables.{Tables}
use Rattle.universe.specs.declared.held.Universe.{Universe as Held}
use Rattle.universe.specs.Held.{universe_in}
use Rattle.universe.proofs.Sounds.{sound}
use Rattle.plans.specs.Lists.{lists_below}
use Rattle.closing.specs.declared.listing.Listing.{Listing}
use Rattle.closing.specs.Listing.{Lists, pairs_of}
use Rattle.closing.proofs.Tracking.{lists_tracks, places_length}
use Rattle.plans.proofs.Closings.{closing_still, pair_count_small}
use Rattle.plans.proofs.Growing.{Sound, addable_ready, initial_below, initial_length, initial_sound, listed_count_most, next_some, sound_pushed}
use Rattle.plans.proofs.Ranks.{length_pushed}

-- the list is on its way to the closing order, with so many turns left
pub record Midway (u : Universe) (l : List Pair) : Type 0 where
  pub sound : Sound u l
  pub turns : ℕ
  pub rest : grown u turns l ≡ closing u

pub midway_begins : (u : Universe) → Valid u → Midway u (initial_pairs u)
unfolding closing
midway_begins u ok = record { sound = initial_sound u ok u.types (omega arith); turns = pair_count u; rest = refl }

-- a sound list has room
pub sound_short : (u : Universe) (l : List Pair) → Valid u → Sound u l → length l ≤ 128
sound_short u l ok s = omega (arith, s.count, listed_count_most u l, pair_count_small u ok)

module _ (u : Universe) (l : List Pair) (h : Pair) (ok : Valid u) where
  -- the next pair can be listed behind the others
  pub next_sound : Sound u l → next_pair u l ≡ Some h → IsPair u h.kind h.state × Sound u (l ++ (h ∷ []))
  next_sound s e =
      let next = next_some u l h e in
      let ready = addable_ready u l ok h next.1 in
      (next.0, sound_pushed u l h s next.0 ready.0 (λ _. ready.1.lead) ready.1.ports)

  pub next_room : Sound u l → next_pair u l ≡ Some h → length l < 128
  next_room s e = omega (arith, length_pushed l h, sound_short u (l ++ (h ∷ [])) ok (next_sound s e).1)

  -- a turn that adds a pair
  pub midway_more : Midway u l → next_pair u l ≡ Some h → Midway u (l ++ (h ∷ []))
  unfolding grown
  midway_more m e = by m.turns m.rest
    where
      by : (n : ℕ) → grown u n l ≡ closing u → Midway u (l ++ (h ∷ []))
      by zero r =
          let none : Some h ≡ None = sym e ∙ ap (next_pair u) r ∙ closing_still u ok in
          absurd (let z : ◌≡◌ {A = ℕ} 0 1 = cc in omega arith)
      by (suc n) r =
          record { sound = (next_sound m.sound e).1; turns = n; rest = sym (ap (λ o. grown_with o l (grown u n)) e) ∙ r }

-- where no pair can be added, the list is the closing order
pub midway_ends : (u : Universe) (l : List Pair) → Midway u l → next_pair u l ≡ None → l ≡ closing u
unfolding grown
midway_ends u l m e = by m.turns m.rest
  where
    by : (n : ℕ) → grown u n l ≡ closing u → l ≡ closing u
    by zero r = r
    by (suc n) r = sym (ap (λ o. grown_with o l (grown u n)) e) ∙ r

-- the listing of the pairs with state 0
module _ (t : Tables) where
  pub initial_begins : (s : Listing) → Lists t [] s → Lists t (initial_below 0) s
  unfolding lists_below
  initial_begins s lists = lists

  pub initial_more : (s r : Listing) (k : ℕ) → Lists t (initial_below k) s → Lists t (pairs_of s ++ (pair k 0 ∷ [])) r →
      Lists t (initial_below (k + 1)) r
  unfolding lists_below
  initial_more s r k was now = rw (add-one, ← was.places.kept) now

  pub initial_room : (s : Listing) (k : ℕ) → Lists t (initial_below k) s → s.len ≡ k
  initial_room s k lists = sym (places_length (initial_below k) s.places s.len lists.places) ∙ initial_length k

-- state 0 of a type is a pair
pub initial_pair : (h : Held) (k : ℕ) → k < (universe_in h).types → IsPair (universe_in h) k 0
initial_pair h k low = (low, ((sound h.tables h.sound).valid.states k low).0)

-- a listing on its way to the closing order of a universe
pub record Round (h : Held) (s : Listing) : Type 0 where
  pub lists : Lists h.tables (pairs_of s) s
  pub midway : Midway (universe_in h) (pairs_of s)

module _ (h : Held) where
  valid : Valid (universe_in h)
  valid = (sound h.tables h.sound).valid

  pub round_begins : (s : Listing) → Lists h.tables (initial_pairs (universe_in h)) s → Round h s
  round_begins s lists =
      record {
        lists = lists_tracks h.tables _ s lists;
        midway = rw (lists.places.kept) (midway_begins (universe_in h) valid);
      }

  module _ (s : Listing) (g : Pair) (round : Round h s) (next : next_pair (universe_in h) (pairs_of s) ≡ Some g) where
    pub round_pair : IsPair (universe_in h) g.kind g.state
    round_pair = (next_sound (universe_in h) (pairs_of s) g valid round.midway.sound next).0

    pub round_room : s.len < 128
    round_room =
        let room = next_room (universe_in h) (pairs_of s) g valid round.midway.sound next in
        omega (arith, places_length (pairs_of s) s.places s.len round.lists.places)

    pub round_more : (r : Listing) → Lists h.tables (pairs_of s ++ (g ∷ [])) r → Round h r
    round_more r lists =
        record {
          lists = lists_tracks h.tables _ r lists;
          midway = rw (lists.places.kept) (midway_more (universe_in h) (pairs_of s) g valid round.midway next);
        }

  pub round_ends : (s : Listing) → Round h s → next_pair (universe_in h) (pairs_of s) ≡ None → Lists h.tables (closing (universe_in h)) s
  round_ends s round none =
      subst (λ l. Lists h.tables l s) (midway_ends (universe_in h) (pairs_of s) round.midway none) round.lists
