-- The turns of the loops that count the ports of a row, and the rows of a provider, again. Assumes nothing.
use Rattle.std.proofs.Common.{◌≡◌, ℕ, ◌+◌, ◌<◌, ◌≤◌, Bool, true, false, not, ◌&&◌, ◌||◌, eqb, List, length, bit_and, bit_xor, sym, ap, ◌∙◌, subst, refl, inl, inr, add-one, arith}
use mathlib.Core.Bool.{and-true}
use Rattle.std.proofs.lemmas.Bool.{and_parts, cases_eq, eq-eqb, ne_eqb}
use Rattle.model.specs.Config.{Config}
use Rattle.model.specs.Search.{one}
use Rattle.model.proofs.Searches.{any_none, refuted}
use Rattle.model.proofs.CoverCounts.{one_either}
use Rattle.universe.specs.Sets.{has}
use Rattle.universe.proofs.Checked.{has_zero}
use Rattle.universe.proofs.PackedSets.{has_below}
use Rattle.table.specs.declared.row.Row.{Row}
use Rattle.table.specs.Rows.{row, joins, held, Ordered}
use Rattle.table.specs.Covers.{by_port, by_provider, by_row, by_rows, count, Ready, ReadyRow, RowsFrom, Recounted}
use Rattle.table.proofs.PortSets.{has_and, has_xor}
use Rattle.table.proofs.RowSearch.{any_suc, held_tells, joins_rank, joins_self, one_place}

-- two recounts one after the other
recounted_then : (xs zs ys : List ℕ) (f g f' g' f'' g'' : ℕ → ℕ → Bool) → Recounted xs zs f g → Recounted zs ys f' g' →
    ((p y : ℕ) → one (f'' p y) ≡ one (f p y) + one (f' p y)) → ((p y : ℕ) → one (g'' p y) ≡ one (g p y) + one (g' p y)) → Recounted xs ys f'' g''
recounted_then xs zs ys f g f' g' f'' g'' before here ef eg =
    record { at = λ p y lp ly. omega (arith, before.at p y lp ly, here.at p y lp ly, ef p y, eg p y) }

-- the row is to y and has the port p, which is not among those left, and p passes
pub by_row_but : ℕ → Row → (ℕ → Bool) → ℕ → ℕ → Bool
by_row_but left b f p y = not (has 32 left p) && by_row b f p y

-- so many ports of a row are left: the others were recounted
pub record Left (xs zs : List ℕ) (b : Row) (left : ℕ) (f g : ℕ → Bool) : Type 0 where
  pub inside : (p : ℕ) → has 32 left p ≡ true → has 32 b.ports p ≡ true
  pub recounted : Recounted xs zs (by_row_but left b f) (by_row_but left b g)

-- the ports of a row
module _ (b : Row) where
  -- at first those are left that one of two sets has and the other has not
  pub left_first : (xs : List ℕ) (s t : ℕ) → Left xs xs b (bit_and b.ports (bit_xor s t)) (has 32 s) (has 32 t)
  unfolding by_row_but by_row
  left_first xs s t =
      record {
        inside = λ p e. (and_parts (has 32 b.ports p) _ (sym (has_and b.ports (bit_xor s t) p) ∙ e)).0;
        recounted = record { at = λ p y lp ly. ap (λ n. count xs p y + n) (ap one (same p y)) };
      }
    where
      pass : (h d f g a c : Bool) → (d ≡ false → f ≡ g) → (not (h && d) && (((h && a) && c) && f)) ≡ (not (h && d) && (((h && a) && c) && g))
      pass true true f g a c k = refl
      pass true false f g true true k = k refl
      pass true false f g true false k = refl
      pass true false f g false c k = refl
      pass false d f g a c k = refl

      same : (p y : ℕ) → by_row_but (bit_and b.ports (bit_xor s t)) b (has 32 s) p y ≡ by_row_but (bit_and b.ports (bit_xor s t)) b (has 32 t) p y
      same p y =
          rw (has_and b.ports (bit_xor s t) p)
          (pass (has 32 b.ports p) (has 32 (bit_xor s t) p) (has 32 s p) (has 32 t p) (eqb b.provider b.provider) (eqb b.requirer y) (has_xor s t p))

  -- the port q of those that are left is looked at
  module _ (q left : ℕ) (xs zs : List ℕ) (f g : ℕ → Bool) (before : Left xs zs b left f g) (has_it : has 32 left q ≡ true) where
    same : count zs q b.requirer ≡ count xs q b.requirer
    unfolding by_row_but
    same =
        let e = before.recounted.at q b.requirer (has_below 32 left q has_it) b.in_range.1 in
        let e' = rw has_it at e in
        omega (arith, e')

    module _ (ready : ReadyRow xs b f) where
      pub port_least : one (f q) ≤ count zs q b.requirer
      port_least = omega (arith, ready.least q (before.inside q has_it), same)

      pub port_room : count zs q b.requirer < 65535
      port_room = omega (arith, ready.room q (before.inside q has_it), same)

    -- it is left no more
    module _ (rest : ℕ) (is : (p : ℕ) → has 32 rest p ≡ (has 32 left p && not (eqb q p))) where
      parted : (h : ℕ → Bool) (p y : ℕ) → one (by_row_but rest b h p y) ≡ one (by_row_but left b h p y) + one (by_port q b.requirer h p y)
      unfolding by_row_but by_row by_port
      parted h p y =
          elim (cases_eq p q) [
            | inl e ↦ rw (e, is q, has_it, before.inside q has_it, eq-eqb b.provider b.provider refl, eq-eqb q q refl) (at (eqb b.requirer y) (h q))
            | inr ne ↦ rw (is p, ne_eqb q p (λ e. ne (sym e)), and-true (has 32 left p)) (plus _)
          ]
        where
          at : (a c : Bool) → one (not (true && not true) && (((true && true) && a) && c)) ≡ one (not true && (((true && true) && a) && c)) + one ((true && a) && c)
          at true true = refl
          at true false = refl
          at false c = refl

          plus : (n : ℕ) → n ≡ n + 0
          plus n = omega arith

      pub left_next : (ys : List ℕ) → Recounted zs ys (by_port q b.requirer f) (by_port q b.requirer g) → Left xs ys b rest f g
      left_next ys here =
          record {
            inside = λ p e. before.inside p (and_parts (has 32 left p) _ (sym (is p) ∙ e)).0;
            recounted = recounted_then xs zs ys _ _ _ _ _ _ before.recounted here (parted f) (parted g);
          }

  -- in the end none is left
  pub left_none : (xs ys : List ℕ) (f g : ℕ → Bool) → Left xs ys b 0 f g → Recounted xs ys (by_row b f) (by_row b g)
  unfolding by_row_but
  left_none xs ys f g all = record { at = λ p y lp ly. let e = all.recounted.at p y lp ly in rw (has_zero 32 p) at e }

-- before the first row nothing is recounted
pub recounted_none : (xs : List ℕ) (rows : List Row) (z : ℕ) (f g : ℕ → Bool) →
    Recounted xs xs (by_rows rows 0 z f) (by_rows rows 0 z g)
unfolding by_rows
recounted_none xs rows z f g =
    record { at = λ p y lp ly. let e = any_none (λ i. joins (row rows i) p z y) in rw e refl }

-- the row i of the rows of the provider z is looked at
module _ (rows : List Row) (n z i : ℕ) (ordered : Ordered rows n) (from : (k : ℕ) → k < n → (row rows k).provider ≡ z) (li : i < n) where
  abbrev b : Row
  b = row rows i

  held_next : (p y : ℕ) → held rows (i + 1) p z y ≡ (held rows i p z y || joins b p z y)
  held_next p y = rw (add-one i) (any_suc (λ k. joins (row rows k) p z y) i)

  -- no row before it is for the same requirer
  apart : (p y : ℕ) → held rows i p z y ≡ true → joins b p z y ≡ true → ⊥
  apart p y h j =
      let a = (held_tells rows i p z y).0 h in
      let l = a.1 in
      let e = one_place rows n ordered a.0 i (omega arith) li (joins_rank (row rows a.0) p z y a.2 ∙ sym (joins_rank b p z y j)) in
      omega arith

  itself : (p : ℕ) → joins b p z b.requirer ≡ has 32 b.ports p
  itself p = ap (λ (x : ℕ). joins b p x b.requirer) (sym (from i li)) ∙ joins_self b p

  fresh : (p : ℕ) → has 32 b.ports p ≡ true → held rows i p z b.requirer ≡ false
  fresh p e = refuted _ (λ h. apart p b.requirer h (itself p ∙ e))

  -- and it is one of all
  there : (p : ℕ) → has 32 b.ports p ≡ true → held rows n p z b.requirer ≡ true
  there p e = (held_tells rows n p z b.requirer).1 (i, li, itself p ∙ e)

  module _ (xs zs : List ℕ) (f g : ℕ → Bool) (before : Recounted xs zs (by_rows rows i z f) (by_rows rows i z g)) where
    -- the counts of its ports are as they were at first
    uncounted_yet : (p : ℕ) → has 32 b.ports p ≡ true → count zs p b.requirer ≡ count xs p b.requirer
    unfolding by_rows
    uncounted_yet p has_it =
        let e = before.at p b.requirer (has_below 32 b.ports p has_it) b.in_range.1 in
        let e' = rw (fresh p has_it) at e in
        omega (arith, e')

    parted_row : (h : ℕ → Bool) (p y : ℕ) → one (by_rows rows (i + 1) z h p y) ≡ one (by_rows rows i z h p y) + one (by_row b h p y)
    unfolding by_rows by_row
    parted_row h p y =
        subst (λ (x : ℕ). one (held rows (i + 1) p z y && h p) ≡ one (held rows i p z y && h p) + one (joins b p x y && h p)) (sym (from i li))
        (rw (held_next p y) (one_either (held rows i p z y) (joins b p z y) (h p) (apart p y)))

    -- with it one row more is recounted
    recounted_more : (ys : List ℕ) → Recounted zs ys (by_row b f) (by_row b g) → Recounted xs ys (by_rows rows (i + 1) z f) (by_rows rows (i + 1) z g)
    recounted_more ys here = recounted_then xs zs ys _ _ _ _ _ _ before here (parted_row f) (parted_row g)

-- all rows of the provider were recounted
pub recounted_rows : (c : Config) (z : ℕ) (rows : List Row) (xs ys : List ℕ) (f g : ℕ → Bool) → RowsFrom c z rows →
    Recounted xs ys (by_rows rows (length rows) z f) (by_rows rows (length rows) z g) → Recounted xs ys (by_provider c z f) (by_provider c z g)
unfolding by_provider by_rows
recounted_rows c z rows xs ys f g from recounted =
    record { at = λ p y lp ly. rw (← from.held p y) (recounted.at p y lp ly) }

-- the row i of all those of the provider can be recounted, once those before it were
module _ (c : Config) (z i : ℕ) (rows : List Row) (xs zs : List ℕ) (f g : ℕ → Bool) (from : RowsFrom c z rows) (li : i < length rows)
    (ready : Ready xs (by_provider c z f)) (recounted : Recounted xs zs (by_rows rows i z f) (by_rows rows i z g)) where
  abbrev here : Row
  here = row rows i

  least_here : (p : ℕ) → has 32 here.ports p ≡ true → one (f p) ≤ count xs p here.requirer
  unfolding by_provider
  least_here p has_it =
      let e = from.held p here.requirer in
      let t = there rows (length rows) z i from.ordered from.provider li p has_it in
      rw (← e, t) at (ready.least p here.requirer (has_below 32 here.ports p has_it) here.in_range.1)

  pub next_ready : ReadyRow zs here f
  next_ready =
      record {
        least = λ p has_it. omega (arith, least_here p has_it, uncounted_yet rows (length rows) z i from.ordered from.provider li xs zs f g recounted p has_it);
        room = λ p has_it.
            omega (
              arith,
              ready.room p here.requirer (has_below 32 here.ports p has_it) here.in_range.1,
              uncounted_yet rows (length rows) z i from.ordered from.provider li xs zs f g recounted p has_it,
            );
      }

  pub next_recounted : (ys : List ℕ) → Recounted zs ys (by_row here f) (by_row here g) → Recounted xs ys (by_rows rows (i + 1) z f) (by_rows rows (i + 1) z g)
  next_recounted ys t = recounted_more rows (length rows) z i from.ordered from.provider li xs zs f g recounted ys t
