-- What the rows hold after a binding was put in or taken out. Assumes nothing.
use Rattle.std.proofs.Common.{◌≡◌, ℕ, ◌+◌, ◌-◌, ◌*◌, ◌<◌, ◌≤◌, false, not, ◌&&◌, ◌||◌, eqb, ◌≢◌, List, length, set, refl, sym, ap, ◌∙◌, inl, inr, length-set, arith}
use mathlib.Core.Bool.{false≢true}
use Rattle.std.proofs.lemmas.Bool.{cases_eq, eq-eqb, or_right}
use Rattle.model.specs.Orders.{same}
use Rattle.model.proofs.Results.{same_true}
use Rattle.model.proofs.Searches.{refuted}
use Rattle.universe.specs.Sets.{has}
use Rattle.universe.proofs.Checked.{has_zero}
use Rattle.table.specs.declared.row.Row.{Row}
use Rattle.table.specs.Rows.{row, rank, joins, held, Formed, Gives, Holds, Place, Opened, Closed}
use Rattle.table.proofs.PortSets.{not_empty}
use Rattle.table.proofs.RowSearch.{joins_tells, least_at, rank_one}
use Rattle.table.proofs.RowMoves.{filled_less, filled_more, filled_written, gives_less, gives_more, gives_one, held_gained, held_less, held_lost, held_more, here, ordered_less, ordered_more, ordered_written}

-- a binding on the port q from x to y, and the place of its rank among the first n rows
module _ (xs : List Row) (n : ℕ) (formed : Formed xs n) (q x y r : ℕ) (lx : x < 256) (ly : y < 256) where
  -- a row of that rank stands there
  module _ (room : n ≤ length xs) (lr : r < n) (is : rank (row xs r) ≡ x * 256 + y) (b : Row) where
    abbrev old : Row
    old = row xs r

    ends : (old.provider ≡ x) × (old.requirer ≡ y)
    ends = rank_one old x y lx ly is

    abbrev after : List Row
    after = set xs r b

    same_rank : b.provider ≡ old.provider → b.requirer ≡ old.requirer → rank b ≡ rank old
    same_rank e f = omega (arith, e, f)

    filled_at : rank b ≡ rank old → b.ports ≢ 0 → (i : ℕ) → i < n → (row after i).ports ≢ 0
    filled_at e some i l none = elim (cases_eq i r) [
      | inl is ↦ some (ap (λ (b : Row). b.ports) (sym (here xs n formed.ordered r lr room b e) ∙ ap (row after) (sym is)) ∙ none)
      | inr ne ↦ filled_written xs n formed.ordered r lr room b e formed.filled i l ne none
    ]

    -- it has the port too
    pub put_there : Gives b old.provider old.requirer (λ p. has 32 old.ports p || eqb q p) → Holds after n (λ p x' y'. held xs n p x' y' || same q x y p x' y')
    put_there g =
        let e = same_rank g.provider g.requirer in
        record {
          most = omega (arith, length-set xs r b);
          formed = record {
            ordered = ordered_written xs n formed.ordered r lr room b e;
            filled = filled_at e (not_empty b.ports q (g.ports q ∙ or_right (has 32 old.ports q) _ (eq-eqb q q refl)));
          };
          held = λ p x' y'.
              held_gained xs n formed.ordered r lr room b e p x' y' (same q x y p x' y') (gives_more b x y old q ends.0 ends.1 (gives g.provider g.requirer g.ports) p x' y');
        }
      where
        gives : b.provider ≡ old.provider → b.requirer ≡ old.requirer → ((p : ℕ) → has 32 b.ports p ≡ (has 32 old.ports p || eqb q p)) →
            Gives b x y (λ p. has 32 old.ports p || eqb q p)
        gives e f h = record { provider = e ∙ ends.0; requirer = f ∙ ends.1; ports = h }

    -- it has the port no more
    module _ (g : Gives b old.provider old.requirer (λ p. has 32 old.ports p && not (eqb q p))) where
      gives : Gives b x y (λ p. has 32 old.ports p && not (eqb q p))
      gives = record { provider = g.provider ∙ ends.0; requirer = g.requirer ∙ ends.1; ports = g.ports }

      e : rank b ≡ rank old
      e = same_rank g.provider g.requirer

      ordered : (i j : ℕ) → i < j → j < n → rank (row after i) < rank (row after j)
      ordered = ordered_written xs n formed.ordered r lr room b e

      lost : (p x' y' : ℕ) → held after n p x' y' ≡ (held xs n p x' y' && not (same q x y p x' y'))
      lost p x' y' =
          held_lost xs n formed.ordered r lr room b e p x' y' (same q x y p x' y')
          (λ e. let s = same_true q x y p x' y' e in omega (arith, is, s.1, s.2))
          (gives_less b x y old q ends.0 ends.1 gives p x' y')

      -- and others
      pub take_port : b.ports ≢ 0 → Holds after n (λ p x' y'. held xs n p x' y' && not (same q x y p x' y'))
      take_port some =
          record {
            most = omega (arith, length-set xs r b);
            formed = record { ordered = ordered; filled = filled_at e some };
            held = lost;
          }

      -- and no other, so it goes
      pub take_row : b.ports ≡ 0 → (ys : List Row) → length ys ≡ length after → Closed after ys r n → Holds ys (n - 1) (λ p x' y'. held xs n p x' y' && not (same q x y p x' y'))
      take_row none ys size closed =
          record {
            most = omega (arith, length-set xs r b);
            formed = record {
              ordered = ordered_less after ys n ordered r closed;
              filled = filled_less after ys n ordered r closed (filled_written xs n formed.ordered r lr room b e formed.filled);
            };
            held = λ p x' y'. held_less after ys n ordered r closed p x' y' (without p x' y') ∙ lost p x' y';
          }
        where
          without : (p x' y' : ℕ) → joins (row after r) p x' y' ≡ false
          without p x' y' =
              refuted _ (λ passes.
              let j = (joins_tells (row after r) p x' y').0 passes in
              let z = ap (λ (b : Row). has 32 b.ports p) (here xs n formed.ordered r lr room b e) ∙ ap (λ s. has 32 s p) none ∙ has_zero 32 p in
              false≢true (sym z ∙ j.port))

  -- none does, and one that has the port alone is put in
  module _ (room : n < length xs) (at : Place xs n (x * 256 + y) r) (b : Row) (g : Gives b x y (λ p. eqb q p)) (apart : r < n → rank (row xs r) ≡ rank b → ⊥)
      (ys : List Row) (size : length ys ≡ length xs) (opened : Opened xs ys r n) where
    is_rank : x * 256 + y ≡ rank b
    is_rank = omega (arith, g.provider, g.requirer)

    at_rank : Place xs n (rank b) r
    at_rank = record {
      most = at.most;
      before = λ i l. let h = at.before i l in omega (arith, h, is_rank);
      after = λ i l m. let h = at.after i l m in omega (arith, h, is_rank);
    }

    none : (i : ℕ) → i < n → rank (row xs i) ≡ rank b → ⊥
    none i l e =
        let f = least_at xs n formed.ordered (rank b) r i at_rank l (omega arith) in
        apart f.0 (omega (arith, f.1, f.2))

    pub put_new : Holds (set ys r b) (n + 1) (λ p x' y'. held xs n p x' y' || same q x y p x' y')
    put_new =
        let wide : n < length ys = omega arith in
        record {
          most = omega (arith, length-set ys r b);
          formed = record {
            ordered = ordered_more xs ys n formed.ordered b r at_rank opened wide none;
            filled = filled_more xs ys n formed.ordered b r at_rank opened wide (not_empty b.ports q (g.ports q ∙ eq-eqb q q refl)) formed.filled;
          };
          held = λ p x' y'. held_more xs ys n formed.ordered b r at_rank opened wide p x' y' ∙ ap (λ s. held xs n p x' y' || s) (gives_one b x y q g p x' y');
        }
