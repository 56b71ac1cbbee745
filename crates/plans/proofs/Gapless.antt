-- What stands while an instance is built has no gap. Assumes nothing.
use Rattle.std.proofs.Common.{List, [], ◌∷◌, ◌≡◌, ℕ, ◌+◌, ◌<◌, ◌≤◌, Bool, true, sym, refl, ap, ◌∙◌, inl, inr, subst, arith}
use mathlib.Core.Bool.{false≢true}
use Rattle.std.proofs.lemmas.Bool.{and_from, both_ways, cases_eq, cases_lt, cases_order, eq-eqb, or_left, or_right}
use Rattle.std.proofs.lemmas.Bool.Decides.{nat_tests}
use Rattle.model.specs.Config.{provided, required}
use Rattle.model.specs.Gaps.{Gap, GapFree}
use Rattle.model.specs.Universe.{Universe, Valid}
use Rattle.plans.specs.Plan.{Passable, Plan, Supplied, Works, last_state}
use Rattle.plans.proofs.Building.{built_holds, holds, walking, walking_below}

module _ (u : Universe) (s : Plan) where
  -- all ports of h are supplied to z
  abbrev pub AllSupplied : ℕ → (ℕ → Bool) → Type 0
  AllSupplied z h = (p : ℕ) → h p ≡ true → Supplied u s z p

  -- so are those that the last state requires, if the first state's are
  last_supplied : (z q : ℕ) (rs : List ℕ) → Passable u s z q rs →
      AllSupplied z (u.requires (s.kind z) q) → AllSupplied z (u.requires (s.kind z) (last_state q rs))
  unfolding Passable last_state
  last_supplied z q [] h f = f
  last_supplied z q (r ∷ rs) h f = last_supplied z r rs h.2 h.1

  -- once it is built, an instance is bound at the ports that its last state requires
  pub built_parts : (n y p : ℕ) → built_holds u s n y p ≡ true →
      (s.first ≤ y) × (y < n) × (u.requires (s.kind y) (last_state 0 (s.path y)) p ≡ true)
  built_parts n y p e = (grind (arith, nat_tests), grind (arith, nat_tests), grind (arith, nat_tests))

  module _ (ok : Valid u) (w : Works u s) where
    -- state 0 requires nothing
    pub initial_supplied : (z : ℕ) → AllSupplied z (u.requires (s.kind z) 0)
    initial_supplied z p e = absurd (both_ways _ (ok.initial (s.kind z) p) e)

    -- what an instance is bound at once it is built is supplied to it
    built_supplied : (n y p : ℕ) → n ≤ s.first + s.count → built_holds u s n y p ≡ true → Supplied u s y p
    built_supplied n y p le e =
        let k = built_parts n y p e in
        last_supplied y 0 (s.path y) (w.path y k.0 (omega arith)) (initial_supplied y) p k.2

    -- what an instance is bound at while z is built is supplied to it, if what z is bound at is supplied to z
    pub held_supplied : (z : ℕ) (h : ℕ → Bool) → z < s.first + s.count → AllSupplied z h →
        (y p : ℕ) → holds u s z h y p ≡ true → Supplied u s y p
    held_supplied z h high f y p e =
        elim (cases_eq y z) [
          | inl same ↦ subst (λ y. Supplied u s y p) (sym same) (f p (grind (arith, nat_tests)))
          | inr other ↦ built_supplied z y p (omega arith) (grind (arith, nat_tests))
        ]

    module _ (z q : ℕ) (h : ℕ → Bool) where
      -- what is bound at a port that is supplied to it has no gap there
      held_covers : (y p : ℕ) → holds u s z h y p ≡ true → Supplied u s y p → Gap u (walking u s z q h) y p → ⊥
      unfolding walking
      held_covers y p e f g =
          let low : y ≤ z = grind (arith, nat_tests) in
          g.uncovered (s.supplier p) (or_right _ _ (and_from _ _ (eq-eqb (s.supplier p) (s.supplier p) refl) e))
          (ap (provided u p) (walking_below u s z q h (s.supplier p) y f.before low) ∙ f.provides)

      -- what stood at the outset has no gap
      outset_covers : s.first ≤ z → (y p : ℕ) → y < s.first → Gap u (walking u s z q h) y p → ⊥
      unfolding walking
      outset_covers le y p lt g =
          let same : (x : ℕ) → x < s.first → (walking u s z q h).inst x ≡ s.outset.inst x =
          λ x l. grind (arith, nat_tests) in
          w.sound y p (record {
            requires = ap (required u p) (sym (same y lt)) ∙ g.requires;
            uncovered = λ x b e. elim (cases_lt x s.first) [
              | inl l ↦ g.uncovered x (or_left _ _ b) (ap (provided u p) (same x l) ∙ e)
              | inr l ↦ false≢true (ap (provided u p) (sym (w.inst x l)) ∙ e)
            ];
          })

      -- an instance of the plan is bound at what its state requires, if z is
      required_held : ((p : ℕ) → u.requires (s.kind z) q p ≡ true → h p ≡ true) → (y p : ℕ) → s.first ≤ y →
          required u p ((walking u s z q h).inst y) ≡ true → holds u s z h y p ≡ true
      unfolding walking
      required_held has y p le e = let k = has p in let o = cases_order y z in grind (arith, nat_tests)

      -- nothing has a gap while z is built, if z is bound at all that its state requires, and only at what is supplied
      pub walking_free : s.first ≤ z → z < s.first + s.count →
          ((p : ℕ) → u.requires (s.kind z) q p ≡ true → h p ≡ true) → AllSupplied z h → GapFree u (walking u s z q h)
      walking_free low high has f y p g =
          elim (cases_lt y s.first) [
            | inl lt ↦ outset_covers low y p lt g
            | inr le ↦
                let e = required_held has y p le g.requires in
                held_covers y p e (held_supplied z h high f y p e) g
          ]
