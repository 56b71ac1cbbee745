-- The ranks of suppliers and parents, as they are noted from the highest rank down. Assumes nothing.
use Rattle.std.proofs.Common.{List, [], ◌∷◌, ◌≡◌, ℕ, zero, suc, ◌+◌, ◌-◌, ◌<◌, ◌≤◌, ◌≢◌, Bool, true, false, cond, ◌&&◌, drop, get_or, length, set, replicate, ltb, refl, sym, ap, subst, ◌∙◌, inl, inr, arith}
use Rattle.std.specs.List.{position_or_len}
use Rattle.std.proofs.lemmas.Bool.{cases_eq, cases_lt, eq-eqb, le-ltb, lt-ltb, ne_eqb}
use Rattle.std.proofs.lemmas.List.{drop_all, get_or-set_same, get_or-set_other, length-set}
use Rattle.std.proofs.Math.Seq.{drop-cons}
use Rattle.model.specs.declared.pair.Pair.{Pair}
use Rattle.model.specs.Config.{pair}
use Rattle.model.specs.Universe.{Universe}
use Rattle.universe.specs.declared.tables.State.{State}
use Rattle.universe.specs.declared.tables.Tables.{Tables}
use Rattle.universe.specs.Sets.{has}
use Rattle.universe.specs.Tables.{entry_at, universe_of}
use Rattle.universe.proofs.PackedSets.{has_past}
use Rattle.plans.specs.Lists.{pair_at}
use Rattle.plans.specs.Closing.{follows, parent_rank, provides, supplier_rank}
use Rattle.closing.specs.declared.ranks.Ranks.{Ranks}
use Rattle.closing.specs.Ranks.{Marked, Noted, Tells}

-- a row, as the numbers of a set are marked in it
module _ (w marks rank : ℕ) (before : List ℕ) where
  pub mark_first : Marked w marks rank 0 before before
  mark_first = record { long = refl; each = λ q none. rw (le-ltb q 0 (omega arith)) }

  module _ (n : ℕ) (after : List ℕ) (low : n < length before) (m : Marked w marks rank n before after) where
    room : n < length after
    room = omega (arith, low, m.long)

    -- at another number nothing changes
    elsewhere : (q none : ℕ) → q ≢ n → get_or after q none ≡ cond (ltb q (n + 1) && has w marks q) rank (get_or before q none)
    elsewhere q none ne =
        elim (cases_lt q n) [
          | inl below ↦ m.each q none ∙ (rw (lt-ltb q n below, lt-ltb q (n + 1) (omega arith)))
          | inr past ↦
              let beyond : n + 1 ≤ q = elim (cases_lt n q) [ inl l ↦ omega arith | inr g ↦ absurd (ne (omega arith)) ] in
              m.each q none ∙ (rw (le-ltb q n past, le-ltb q (n + 1) beyond))
        ]

    pub mark_in : has w marks n ≡ true → Marked w marks rank (n + 1) before (set after n rank)
    mark_in e =
        record {
          long = length-set after n rank ∙ m.long;
          each = λ q none.
              elim (cases_eq q n) [
                | inl same ↦ rw (same, get_or-set_same after n rank none room, lt-ltb n (n + 1) (omega arith), e)
                | inr other ↦ get_or-set_other after n q rank none other ∙ elsewhere q none other
              ];
        }

    pub mark_out : has w marks n ≡ false → Marked w marks rank (n + 1) before after
    mark_out e =
        record {
          long = m.long;
          each = λ q none.
              elim (cases_eq q n) [
                | inl same ↦ rw (same, e, lt-ltb n (n + 1) (omega arith)) (m.each n none ∙ (rw (le-ltb n n (omega arith))))
                | inr other ↦ elsewhere q none other
              ];
        }

-- a whole row of w numbers
module _ (w marks rank : ℕ) (before after : List ℕ) (long : length before ≡ w) (m : Marked w marks rank (length before) before after) where
  marked_all : (q none : ℕ) → get_or after q none ≡ cond (has w marks q) rank (get_or before q none)
  marked_all q none =
      m.each q none ∙ ap (λ b. cond b rank (get_or before q none)) (ap (λ n. ltb q n && has w marks q) long ∙ in_range)
    where
      in_range : (ltb q w && has w marks q) ≡ has w marks q
      in_range =
          elim (cases_lt q w) [
            | inl l ↦ rw (lt-ltb q w l)
            | inr g ↦ rw (le-ltb q w g, has_past w marks q g)
          ]

-- with both rows of a pair marked, the pair is noted
pub noted_of : (t : Tables) (g : Pair) (rank : ℕ) (entry : State) (before : Ranks) (suppliers row : List ℕ) →
    length before.suppliers ≡ 32 → length before.parents ≡ 16 → length (get_or before.parents g.kind []) ≡ 8 → g.kind < 16 →
    entry ≡ entry_at t g.kind g.state →
    Marked 32 entry.provided rank (length before.suppliers) before.suppliers suppliers →
    Marked 8 entry.successors rank (length (get_or before.parents g.kind [])) (get_or before.parents g.kind []) row →
    Noted (universe_of t) g rank before (record { suppliers = suppliers; parents = set before.parents g.kind row })
noted_of t g rank entry before suppliers row ports types states low is provided successors =
    record {
      supplier = λ p none.
          marked_all 32 entry.provided rank before.suppliers suppliers ports provided p none
          ∙ ap (λ e. cond (has 32 e.provided p) rank (get_or before.suppliers p none)) is;
      parent = λ h none.
          elim (cases_eq h.kind g.kind) [
            | inl same ↦
                rw (same, get_or-set_same before.parents g.kind row [] (omega (arith, low, types)), eq-eqb g.kind g.kind refl)
                (marked_all 8 entry.successors rank (get_or before.parents g.kind []) row states successors h.state none
                ∙ ap (λ e. cond (has 8 e.successors h.state) rank (get_or (get_or before.parents g.kind []) h.state none)) is)
            | inr other ↦
                rw (get_or-set_other before.parents g.kind h.kind row [] other, ne_eqb g.kind h.kind (λ e. other (sym e)))
          ];
    }

-- of no pairs the length of the list is told
tells_ports : (n p x : ℕ) → get_or (replicate n x) p x ≡ x
tells_ports zero p x = refl
tells_ports (suc n) zero x = refl
tells_ports (suc n) (suc p) x = tells_ports n p x

tells_pairs : (m n k q x : ℕ) → get_or (get_or (replicate m (replicate n x)) k []) q x ≡ x
tells_pairs zero n k q x = refl
tells_pairs (suc m) n zero q x = tells_ports n q x
tells_pairs (suc m) n (suc k) q x = tells_pairs m n k q x

-- the first that passes, with one pair more in front
first_from : (f : Pair → Bool) (l : List Pair) (r : ℕ) → r < length l →
    r + position_or_len f (drop r l) ≡ cond (f (pair_at l r)) r (r + 1 + position_or_len f (drop (suc r) l))
first_from f l r low = ap (λ xs. r + position_or_len f xs) (drop-cons l r (pair 0 0) low) ∙ by (f (pair_at l r)) refl
  where
    by : (b : Bool) → f (pair_at l r) ≡ b →
        r + position_or_len f (pair_at l r ∷ drop (suc r) l) ≡ cond (f (pair_at l r)) r (r + 1 + position_or_len f (drop (suc r) l))
    by true there = rw there (omega arith)
    by false out = rw out (omega arith)

module _ (u : Universe) (l : List Pair) where
  pub tells_none : (len : ℕ) → length l ≡ len →
      Tells u l len (record { suppliers = replicate 32 len; parents = replicate 16 (replicate 8 len) })
  tells_none len long =
      let none = drop_all len l (omega arith) in
      record {
        supplier = λ p. rw (none, long) (tells_ports 32 p len ∙ omega arith);
        parent = λ h. rw (none, long) (tells_pairs 16 8 h.kind h.state len ∙ omega arith);
      }

  -- with the pair of the rank r
  pub tells_more : (r : ℕ) (before after : Ranks) → r < length l → Tells u l (r + 1) before → Noted u (pair_at l r) r before after →
      Tells u l r after
  tells_more r before after low t n =
      let up : r + 1 ≡ suc r = omega arith in
      record {
        supplier = λ p.
            n.supplier p (length l)
            ∙ ap (λ m. cond (provides u p (pair_at l r)) r m) (t.supplier p ∙ ap (λ k. r + 1 + supplier_rank u (drop k l) p) up)
            ∙ sym (first_from (provides u p) l r low);
        parent = λ h.
            n.parent h (length l)
            ∙ ap (λ m. cond (follows u h (pair_at l r)) r m) (t.parent h ∙ ap (λ k. r + 1 + parent_rank u (drop k l) h) up)
            ∙ sym (first_from (follows u h) l r low);
      }

  -- the same for the rank behind it
  pub tells_before : (r : ℕ) (before after : Ranks) (g : Pair) → 0 < r → r ≤ length l → g ≡ pair_at l (r - 1) →
      Tells u l r before → Noted u g (r - 1) before after → Tells u l (r - 1) after
  tells_before r before after g pos most is t n =
      let back : r ≡ r - 1 + 1 = omega arith in
      tells_more (r - 1) before after (omega arith) (subst (λ (k : ℕ). Tells u l k before) back t) (rw is at n)
