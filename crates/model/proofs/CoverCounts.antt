-- How the number of bindings that cover a port moves under orders: only the term of one provider does. Assumes nothing.
use Rattle.std.proofs.Common.{◌≡◌, ℕ, ◌+◌, ◌<◌, ◌≤◌, Bool, true, false, not, ◌&&◌, ◌||◌, ◌≢◌, Some, refl, sym, ◌∙◌, arith}
use mathlib.Core.Bool.{and-false, and-true, false≢true, or-false}
use Rattle.std.proofs.lemmas.Bool.{eq-eqb}
use Rattle.model.specs.declared.binding.Binding.{Binding}
use Rattle.model.specs.declared.order.Order.TheVariants.{Create, Bind, Change, Unbind, Delete}
use Rattle.model.specs.Search.{one}
use Rattle.model.specs.Universe.{Universe}
use Rattle.model.specs.Config.{Config, moved, pair, provided}
use Rattle.model.specs.Orders.{result_of, same}
use Rattle.model.specs.Bounded.{covers}
use Rattle.model.proofs.Results.{create_at, create_off, create_bound, bind_bound, bind_inst, change_at, change_off, change_bound, unbind_bound, unbind_inst, delete_at, delete_bound, delete_bound_off, delete_off, same_true, same_false}
use Rattle.model.proofs.Sums.{sum_above, sum_most, sum_none}
use Rattle.model.proofs.Covering.{covering, covers_moved}

-- the binding j is on the port p to z, and its provider is in a state that provides the port
abbrev pub serves : Universe → Config → Binding → ℕ → ℕ → Bool
serves u c j z p = same j.port j.provider j.requirer p j.provider z && provided u p (c.inst j.provider)

-- of two tests that never both pass at most one counts
pub one_either : (h j a : Bool) → (h ≡ true → j ≡ true → ⊥) → one ((h || j) && a) ≡ one (h && a) + one (j && a)
one_either true true a ne = absurd (ne refl refl)
one_either true false true ne = refl
one_either true false false ne = refl
one_either false true true ne = refl
one_either false true false ne = refl
one_either false false a ne = refl

-- a test counts where another, that passes only where it does, passes or not
one_parted : (h j a : Bool) → (j ≡ true → h ≡ true) → one (h && a) ≡ one ((h && not j) && a) + one (j && a)
one_parted true true true le = refl
one_parted true true false le = refl
one_parted true false true le = refl
one_parted true false false le = refl
one_parted false true a le = absurd (false≢true (le refl))
one_parted false false a le = refl

module _ (n : ℕ) (u : Universe) where
  -- the count is at most n, and at least one where some provider below n covers
  pub covers_most : (c : Config) (z p : ℕ) → covers n u c z p ≤ n
  unfolding covers
  covers_most c z p = sum_most (covering u c z p) n

  pub covers_least : (c : Config) (z p x : ℕ) → x < n → one (covering u c z p x) ≤ covers n u c z p
  unfolding covers
  covers_least c z p x low = sum_above (λ x. one (covering u c z p x)) x n low

  -- no provider covers
  pub covers_none : (c : Config) (z p : ℕ) → ((x : ℕ) → c.bound p x z ≡ false) → covers n u c z p ≡ 0
  unfolding covers
  covers_none c z p h = sum_none _ n (λ x. rw (h x))

  -- orders at the instance x
  module _ (c : Config) (z p x : ℕ) (low : x < n) where
    -- a create: what x is a provider of, if anything, it covers by its state 0
    pub create_covers : (t : ℕ) →
        covers n u (result_of (Create x t) c) z p + one (covering u c z p x) ≡ covers n u c z p + one (c.bound p x z && provided u p (Some (pair t 0)))
    create_covers t =
        let d = result_of (Create x t) c in
        (rw (create_bound c x t p x z, create_at c x t) at
        (covers_moved n u c d z p x low (λ y ne. rw (create_bound c x t p y z, create_off c x t y ne) refl)))

    -- a change: what x is a provider of it covers by its new state
    pub change_covers : (q : ℕ) →
        covers n u (result_of (Change x q) c) z p + one (covering u c z p x) ≡ covers n u c z p + one (c.bound p x z && provided u p (moved (c.inst x) q))
    change_covers q =
        let d = result_of (Change x q) c in
        (rw (change_bound c x q p x z, change_at c x q) at
        (covers_moved n u c d z p x low (λ y ne. rw (change_bound c x q p y z, change_off c x q y ne) refl)))

    -- a delete: what x is a provider of, if anything, it covers no more
    pub delete_covers : z ≢ x → covers n u (result_of (Delete x) c) z p + one (covering u c z p x) ≡ covers n u c z p
    delete_covers other =
        let d = result_of (Delete x) c in
        let e = rw (delete_bound_off c x p x z other, delete_at c x, and-false (c.bound p x z)) at
        (covers_moved n u c d z p x low (λ y ne. rw (delete_bound_off c x p y z other, delete_off c x y ne) refl)) in
        omega (arith, e)

  -- a delete: nothing covers a port of what is no more
  pub deleted_covers : (c : Config) (p x : ℕ) → covers n u (result_of (Delete x) c) x p ≡ 0
  deleted_covers c p x =
      covers_none (result_of (Delete x) c) x p (λ y. rw (delete_bound c x p y x, eq-eqb x x refl) (and-false (c.bound p y x)))

  -- orders on the binding j
  module _ (c : Config) (j : Binding) (low : j.provider < n) (z p : ℕ) where
    apart : (y : ℕ) → y ≢ j.provider → same j.port j.provider j.requirer p y z ≡ false
    apart y ne = same_false j.port j.provider j.requirer p y z (λ e. ne e.1)

    is : same j.port j.provider j.requirer p j.provider z ≡ true → c.bound p j.provider z ≡ c.bound j.port j.provider j.requirer
    is e = let s = same_true j.port j.provider j.requirer p j.provider z e in rw (s.0, s.2) refl

    -- a bind: one more where its provider provides the port
    pub bind_covers : c.bound j.port j.provider j.requirer ≡ false → covers n u (result_of (Bind j) c) z p ≡ covers n u c z p + one (serves u c j z p)
    bind_covers new =
        let d = result_of (Bind j) c in
        let e = covers_moved n u c d z p j.provider low (λ y ne. rw (bind_bound c j p y z, apart y ne, or-false (c.bound p y z), bind_inst c j y) refl) in
        let f = rw (bind_bound c j p j.provider z, bind_inst c j j.provider) at e in
        let g = one_either (c.bound p j.provider z) (same j.port j.provider j.requirer p j.provider z) (provided u p (c.inst j.provider))
        (λ h s. false≢true (sym new ∙ sym (is s) ∙ h)) in
        omega (arith, f, g)

    -- an unbind: one less where its provider provides the port
    pub unbind_covers : c.bound j.port j.provider j.requirer ≡ true → covers n u (result_of (Unbind j) c) z p + one (serves u c j z p) ≡ covers n u c z p
    unbind_covers was =
        let d = result_of (Unbind j) c in
        let e = covers_moved n u c d z p j.provider low (λ y ne. rw (unbind_bound c j p y z, apart y ne, unbind_inst c j y, and-true (c.bound p y z)) refl) in
        let f = rw (unbind_bound c j p j.provider z, unbind_inst c j j.provider) at e in
        let g = one_parted (c.bound p j.provider z) (same j.port j.provider j.requirer p j.provider z) (provided u p (c.inst j.provider))
        (λ s. is s ∙ was) in
        omega (arith, f, g)
