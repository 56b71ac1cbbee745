-- What the counts of covers are after each order. Assumes nothing.
use Rattle.std.proofs.Common.{◌≡◌, ℕ, ◌+◌, ◌*◌, ◌<◌, ◌≤◌, true, false, ◌&&◌, eqb, List, replicate, None, Option, Some, sym, ap, ◌∙◌, inl, inr, refl, arith}
use mathlib.Core.Bool.{and-false, and-true}
use Rattle.std.proofs.lemmas.Bool.{cases_eq, cases_lt, eq-eqb, lt-ltb, le-ltb}
use Rattle.std.proofs.lemmas.List.{get_or-replicate}
use Rattle.model.specs.declared.binding.Binding.{Binding}
use Rattle.model.specs.declared.pair.Pair.{Pair}
use Rattle.model.specs.declared.order.Order.TheVariants.{Create, Bind, Change, Unbind, Delete}
use Rattle.model.specs.Search.{one}
use Rattle.model.specs.Universe.{Universe}
use Rattle.model.specs.Config.{Config, empty, moved, pair, provided}
use Rattle.model.specs.Orders.{result_of}
use Rattle.model.specs.Bounded.{covers}
use Rattle.model.proofs.Searches.{refuted}
use Rattle.model.proofs.CoverCounts.{covers_least, covers_most, create_covers, change_covers, delete_covers, deleted_covers, bind_covers, unbind_covers, covers_none, serves}
use Rattle.universe.specs.Sets.{has}
use Rattle.universe.proofs.Checked.{has_zero}
use Rattle.table.specs.Covers.{by_port, by_provider, count, count_within, Counted, Ready, Recounted, Cleared, provides}

module _ (u : Universe) (c : Config) (xs : List ℕ) (counted : Counted u c xs) where
  -- a count is at least one where some provider covers, and at most 256
  least : (p z y : ℕ) → p < 32 → z < 256 → y < 256 → one (c.bound p z y && provided u p (c.inst z)) ≤ count xs p y
  least p z y lp lz ly = omega (arith, counted.at p y lp ly, covers_least 256 u c y p z lz)

  pub counted_room : (p y : ℕ) → p < 32 → y < 256 → count xs p y < 65535
  counted_room p y lp ly = omega (arith, counted.at p y lp ly, covers_most 256 u c y p)

  module _ (z set : ℕ) (low : z < 256) (is : (p : ℕ) → has 32 set p ≡ provides u (c.inst z) p) where
    -- the rows of an instance can be recounted
    pub ready_slot : Ready xs (by_provider c z (has 32 set))
    unfolding by_provider provides
    ready_slot =
        record {
          least = λ p y lp ly. rw (is p) (least p z y lp low ly);
          room = counted_room;
        }

    -- a binding that stands can be recounted
    pub bound_least : (p y : ℕ) → p < 32 → y < 256 → c.bound p z y ≡ true → one (has 32 set p) ≤ count xs p y
    unfolding provides
    bound_least p y lp ly was = let e = rw was at (least p z y lp low ly) in rw (is p) e

  -- nobody covers what is out of range
  pub counted_within : ((p x y : ℕ) → c.bound p x y ≡ true → (p < 32) × (x < 256) × (y < 256)) → (p y : ℕ) → count_within xs p y ≡ covers 256 u c y p
  counted_within range p y =
      elim (cases_lt p 32) [
        | inl lp ↦ elim (cases_lt y 256) [
          | inl ly ↦ rw (lt-ltb p 32 lp, lt-ltb y 256 ly) (counted.at p y lp ly)
          | inr gy ↦ rw (lt-ltb p 32 lp, le-ltb y 256 gy) (sym (covers_none 256 u c y p (λ x. refuted _ (λ b. let r = (range p x y b).2 in omega arith))))
        ]
        | inr gp ↦ rw (le-ltb p 32 gp) (sym (covers_none 256 u c y p (λ x. refuted _ (λ b. let r = (range p x y b).0 in omega arith))))
      ]

  module _ (ys : List ℕ) (z : ℕ) (low : z < 256) where
    -- a create and a change: the rows of the instance are counted again
    pub created_counted : (t : ℕ) → Recounted xs ys (by_provider c z (provides u (c.inst z))) (by_provider c z (provides u (Some (pair t 0))))
        → Counted u (result_of (Create z t) c) ys
    unfolding by_provider provides
    created_counted t recounted = record {
      at = λ p y lp ly.
          omega (arith, recounted.at p y lp ly, counted.at p y lp ly, create_covers 256 u c y p z low t);
    }

    pub changed_counted : (q : ℕ) (s : Option Pair) → s ≡ moved (c.inst z) q →
        Recounted xs ys (by_provider c z (provides u (c.inst z))) (by_provider c z (provides u s))
        → Counted u (result_of (Change z q) c) ys
    unfolding by_provider provides
    changed_counted q s is recounted = record {
      at = λ p y lp ly.
          let t = rw is at (recounted.at p y lp ly) in
          omega (arith, t, counted.at p y lp ly, change_covers 256 u c y p z low q);
    }

    -- a delete: they are, and the counts of the instance are cleared
    pub deleted_counted : (zs : List ℕ) → Recounted xs zs (by_provider c z (provides u (c.inst z))) (by_provider c z (provides u None))
        → Cleared zs ys z → Counted u (result_of (Delete z) c) ys
    unfolding by_provider provides
    deleted_counted zs recounted cleared = record {
      at = λ p y lp ly.
          elim (cases_eq y z) [
            | inl e ↦ rw (e, deleted_covers 256 u c p z) (cleared.none p lp)
            | inr ne ↦
                let t = rw (and-false (c.bound p z y)) at (recounted.at p y lp ly) in
                omega (arith, t, cleared.others p y lp ly ne, counted.at p y lp ly, delete_covers 256 u c y p z low ne)
          ];
    }

  module _ (ys : List ℕ) (j : Binding) (low : j.provider < 256) (set : ℕ) (is : (p : ℕ) → has 32 set p ≡ provides u (c.inst j.provider) p) where
    -- the port of a binding is that of its requirer
    serves_at : (p y : ℕ) → serves u c j y p ≡ by_port j.port j.requirer (has 32 set) p y
    unfolding by_port provides
    serves_at p y = rw (eq-eqb j.provider j.provider refl, is p, and-true (eqb j.port p)) refl

    none_at : (p y : ℕ) → by_port j.port j.requirer (has 32 0) p y ≡ false
    unfolding by_port
    none_at p y = rw (has_zero 32 p) (and-false (eqb j.port p && eqb j.requirer y))

    -- a bind: it counts now, if its provider provides the port; an unbind: it counts no more
    pub bound_counted : c.bound j.port j.provider j.requirer ≡ false →
        Recounted xs ys (by_port j.port j.requirer (has 32 0)) (by_port j.port j.requirer (has 32 set))
        → Counted u (result_of (Bind j) c) ys
    bound_counted new recounted = record {
      at = λ p y lp ly.
          let t = rw (none_at p y, ← serves_at p y) at (recounted.at p y lp ly) in
          omega (arith, t, counted.at p y lp ly, bind_covers 256 u c j low y p new);
    }

    pub unbound_counted : c.bound j.port j.provider j.requirer ≡ true →
        Recounted xs ys (by_port j.port j.requirer (has 32 set)) (by_port j.port j.requirer (has 32 0))
        → Counted u (result_of (Unbind j) c) ys
    unbound_counted was recounted = record {
      at = λ p y lp ly.
          let t = rw (none_at p y, ← serves_at p y) at (recounted.at p y lp ly) in
          omega (arith, t, counted.at p y lp ly, unbind_covers 256 u c j low y p was);
    }

module _ (u : Universe) (c : Config) (z a b : ℕ) (s t : Option Pair) (before : (p : ℕ) → has 32 a p ≡ provides u s p) (after : (p : ℕ) → has 32 b p ≡ provides u t p) (xs ys : List ℕ) where
  pub recounted_slot : Recounted xs ys (by_provider c z (has 32 a)) (by_provider c z (has 32 b)) →
      Recounted xs ys (by_provider c z (provides u s)) (by_provider c z (provides u t))
  unfolding by_provider
  recounted_slot recounted = record { at = λ p y lp ly. rw (before p, after p) at (recounted.at p y lp ly) }

  -- where both sets are one nothing needs to be counted
  pub recounted_not : a ≡ b → Recounted xs xs (by_provider c z (provides u s)) (by_provider c z (provides u t))
  unfolding by_provider
  recounted_not same =
      record { at = λ p y lp ly. let e : provides u s p ≡ provides u t p = sym (before p) ∙ ap (λ n. has 32 n p) same ∙ after p in rw e refl }

-- the empty set covers nothing
pub none_least : (p n : ℕ) → one (has 32 0 p) ≤ n
none_least p n = rw (has_zero 32 p) (omega arith)

-- where nothing stands each count is 0
pub none_counted : (u : Universe) (c : Config) (xs : List ℕ) → c ≡ empty → ((p y : ℕ) → p < 32 → y < 256 → count xs p y ≡ 0) → Counted u c xs
none_counted u c xs none zero =
    record { at = λ p y lp ly. zero p y lp ly ∙ sym (covers_none 256 u c y p (λ x. ap (λ (c : Config). c.bound p x y) none)) }

-- new counts are 0
pub zeros : (p y : ℕ) → p < 32 → y < 256 → count (replicate 8192 0) p y ≡ 0
unfolding count
zeros p y lp ly = get_or-replicate 8192 (y * 32 + p) 0 0 (omega arith)
