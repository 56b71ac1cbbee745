-- What each order leaves and what it changes, to be cited in place of `result`. Assumes nothing.
use Rattle.std.proofs.Common.{◌≡◌, ℕ, Bool, true, false, not, ◌&&◌, ◌||◌, eqb, ◌≢◌, ◌⊎◌, Some, None, Option, sym, refl, ap, ◌∙◌, inl, inr}
use mathlib.Core.Bool.{and-true, or-false, false≢true}
use Rattle.std.proofs.lemmas.Bool.{and_parts, and_right, both_ways, cases_eq, eq-eqb, eqb-true, ne_eqb, not_from_true, not-true, or_cases, or_left, or_right}
use Rattle.model.specs.declared.binding.Binding.{Binding}
use Rattle.model.specs.declared.pair.Pair.{Pair}
use Rattle.model.specs.declared.order.Order.TheVariants.{Create, Bind, Change, Unbind, Delete}
use Rattle.model.specs.Config.{Config, moved, pair, passes, stands}
use Rattle.model.specs.Orders.{Deletable, put, same, result_of}
use Rattle.model.proofs.Searches.{refuted}

pub put_at : {A : Type 0} (f : ℕ → A) (z : ℕ) (a : A) → put f z a z ≡ a
put_at f z a = rw (eq-eqb z z refl)

pub put_off : {A : Type 0} (f : ℕ → A) (z : ℕ) (a : A) (y : ℕ) → y ≢ z → put f z a y ≡ f y
put_off f z a y ne = rw (ne_eqb y z ne)

-- what passes stands
pub passes_some : (o : Option Pair) (f : Pair → Bool) → passes o f ≡ true → (h : Pair) × (o ≡ Some h) × (f h ≡ true)
passes_some None f e = absurd (false≢true e)
passes_some (Some h) f e = (h, refl, e)

-- two bindings agree in port, provider and requirer
abbrev pub Same : ℕ → ℕ → ℕ → ℕ → ℕ → ℕ → Type 0
Same p x y p' x' y' = (p' ≡ p) × (x' ≡ x) × (y' ≡ y)

module _ (p x y : ℕ) where
  pub same_self : same p x y p x y ≡ true
  same_self = rw (eq-eqb p p refl, eq-eqb x x refl, eq-eqb y y refl)

  pub same_true : (p' x' y' : ℕ) → same p x y p' x' y' ≡ true → Same p x y p' x' y'
  same_true p' x' y' e =
      let a = and_parts (eqb p p' && eqb x x') (eqb y y') e in
      let b = and_parts (eqb p p') (eqb x x') a.0 in
      (sym (eqb-true p p' b.0), sym (eqb-true x x' b.1), sym (eqb-true y y' a.1))

  pub same_false : (p' x' y' : ℕ) → (Same p x y p' x' y' → ⊥) → same p x y p' x' y' ≡ false
  same_false p' x' y' ne = refuted (same p x y p' x' y') (λ e. ne (same_true p' x' y' e))

-- create: the new instance is in state 0 of its type, and all else stays
module _ (c : Config) (z t : ℕ) where
  pub create_at : (result_of (Create z t) c).inst z ≡ Some (pair t 0)
  unfolding result_of
  create_at = put_at c.inst z _

  pub create_off : (y : ℕ) → y ≢ z → (result_of (Create z t) c).inst y ≡ c.inst y
  unfolding result_of
  create_off y ne = put_off c.inst z _ y ne

  pub create_bound : (p x y : ℕ) → (result_of (Create z t) c).bound p x y ≡ c.bound p x y
  unfolding result_of
  create_bound p x y = refl

  -- whatever passes at a number passes there still, if the new number was free
  pub create_keeps : stands (c.inst z) ≡ false → (f : Pair → Bool) (x : ℕ) →
      passes (c.inst x) f ≡ true → passes ((result_of (Create z t) c).inst x) f ≡ true
  create_keeps free f x h = ap (λ o. passes o f) (create_off x other) ∙ h
    where
      other : x ≢ z
      other e =
          let s = passes_some (c.inst x) f h in
          both_ways (stands (c.inst z)) free (ap (λ y. stands (c.inst y)) (sym e) ∙ ap stands s.1)

-- bind: the new binding stands, and all else stays
module _ (c : Config) (j : Binding) where
  pub bind_inst : (z : ℕ) → (result_of (Bind j) c).inst z ≡ c.inst z
  unfolding result_of
  bind_inst z = refl

  pub bind_bound : (p' x' y' : ℕ) → (result_of (Bind j) c).bound p' x' y' ≡ (c.bound p' x' y' || same j.port j.provider j.requirer p' x' y')
  unfolding result_of
  bind_bound p' x' y' = refl

  pub bind_at : (result_of (Bind j) c).bound j.port j.provider j.requirer ≡ true
  bind_at = bind_bound j.port j.provider j.requirer ∙ or_right (c.bound j.port j.provider j.requirer) _ (same_self j.port j.provider j.requirer)

  pub bind_off : (p' x' y' : ℕ) → (Same j.port j.provider j.requirer p' x' y' → ⊥) →
      (result_of (Bind j) c).bound p' x' y' ≡ c.bound p' x' y'
  bind_off p' x' y' ne = bind_bound p' x' y' ∙ rw (same_false j.port j.provider j.requirer p' x' y' ne) (or-false (c.bound p' x' y'))

  -- what was bound stays bound
  pub bind_keeps : (p' x' y' : ℕ) → c.bound p' x' y' ≡ true → (result_of (Bind j) c).bound p' x' y' ≡ true
  bind_keeps p' x' y' b = bind_bound p' x' y' ∙ or_left (c.bound p' x' y') _ b

  -- what is bound was bound or is the new binding
  pub bind_cases : (p' x' y' : ℕ) → (result_of (Bind j) c).bound p' x' y' ≡ true →
      (c.bound p' x' y' ≡ true) ⊎ Same j.port j.provider j.requirer p' x' y'
  bind_cases p' x' y' b =
      elim (or_cases (c.bound p' x' y') _ (sym (bind_bound p' x' y') ∙ b)) [
        | inl was ↦ inl was
        | inr new ↦ inr (same_true j.port j.provider j.requirer p' x' y' new)
      ]

-- change: the instance is in the new state of its type, and all else stays
module _ (c : Config) (z q : ℕ) where
  pub change_at : (result_of (Change z q) c).inst z ≡ moved (c.inst z) q
  unfolding result_of
  change_at = put_at c.inst z _

  pub change_to : (h : Pair) → c.inst z ≡ Some h → (result_of (Change z q) c).inst z ≡ Some (pair h.kind q)
  change_to h e = change_at ∙ ap (λ o. moved o q) e

  pub change_off : (y : ℕ) → y ≢ z → (result_of (Change z q) c).inst y ≡ c.inst y
  unfolding result_of
  change_off y ne = put_off c.inst z _ y ne

  pub change_bound : (p x y : ℕ) → (result_of (Change z q) c).bound p x y ≡ c.bound p x y
  unfolding result_of
  change_bound p x y = refl

  -- a test of the type alone is as before
  pub change_kind : (f : ℕ → Bool) (x : ℕ) → passes ((result_of (Change z q) c).inst x) (λ h. f h.kind) ≡ passes (c.inst x) (λ h. f h.kind)
  change_kind f x =
      elim (cases_eq x z) [
        | inl e ↦ rw (e, change_at) (of_moved (c.inst z))
        | inr ne ↦ rw (change_off x ne)
      ]
    where
      of_moved : (o : Option Pair) → passes (moved o q) (λ h. f h.kind) ≡ passes o (λ h. f h.kind)
      of_moved None = refl
      of_moved (Some h) = refl

-- unbind: the binding stands no more, and all else stays
module _ (c : Config) (j : Binding) where
  pub unbind_inst : (z : ℕ) → (result_of (Unbind j) c).inst z ≡ c.inst z
  unfolding result_of
  unbind_inst z = refl

  pub unbind_bound : (p' x' y' : ℕ) → (result_of (Unbind j) c).bound p' x' y' ≡ (c.bound p' x' y' && not (same j.port j.provider j.requirer p' x' y'))
  unfolding result_of
  unbind_bound p' x' y' = refl

  pub unbind_at : (result_of (Unbind j) c).bound j.port j.provider j.requirer ≡ false
  unbind_at = unbind_bound j.port j.provider j.requirer ∙ and_right (c.bound j.port j.provider j.requirer) _ (not_from_true _ (same_self j.port j.provider j.requirer))

  pub unbind_off : (p' x' y' : ℕ) → (Same j.port j.provider j.requirer p' x' y' → ⊥) →
      (result_of (Unbind j) c).bound p' x' y' ≡ c.bound p' x' y'
  unbind_off p' x' y' ne = unbind_bound p' x' y' ∙ rw (same_false j.port j.provider j.requirer p' x' y' ne) (and-true (c.bound p' x' y'))

  -- what is bound was bound
  pub unbind_was : (p' x' y' : ℕ) → (result_of (Unbind j) c).bound p' x' y' ≡ true → c.bound p' x' y' ≡ true
  unbind_was p' x' y' b = (and_parts (c.bound p' x' y') _ (sym (unbind_bound p' x' y') ∙ b)).0

-- delete: the instance stands no more, nor do the bindings of which it is the requirer, and all else stays
module _ (c : Config) (z : ℕ) where
  pub delete_at : (result_of (Delete z) c).inst z ≡ None
  unfolding result_of
  delete_at = put_at c.inst z None

  pub delete_off : (y : ℕ) → y ≢ z → (result_of (Delete z) c).inst y ≡ c.inst y
  unfolding result_of
  delete_off y ne = put_off c.inst z None y ne

  pub delete_bound : (p x y : ℕ) → (result_of (Delete z) c).bound p x y ≡ (c.bound p x y && not (eqb y z))
  unfolding result_of
  delete_bound p x y = refl

  pub delete_bound_off : (p x y : ℕ) → y ≢ z → (result_of (Delete z) c).bound p x y ≡ c.bound p x y
  delete_bound_off p x y ne = delete_bound p x y ∙ rw (ne_eqb y z ne) (and-true (c.bound p x y))

  -- every provider is another instance, where this one may be deleted
  pub delete_apart : Deletable c z → (p x y : ℕ) → c.bound p x y ≡ true → x ≢ z
  delete_apart l p x y b e = both_ways (c.bound p z y) (l.unused p y) (ap (λ n. c.bound p n y) (sym e) ∙ b)

  -- what is bound was bound, and to another requirer
  pub delete_was : (p x y : ℕ) → (result_of (Delete z) c).bound p x y ≡ true → (c.bound p x y ≡ true) × (y ≢ z)
  delete_was p x y b =
      let r = and_parts (c.bound p x y) _ (sym (delete_bound p x y) ∙ b) in
      (r.0, λ e. both_ways (eqb y z) (not-true (eqb y z) r.1) (eq-eqb y z e))
