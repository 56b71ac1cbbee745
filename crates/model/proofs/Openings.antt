-- Legal orders open gaps only where the laws say. Assumes nothing.
use Rattle.std.proofs.Common.{◌≡◌, ℕ, Bool, true, false, not, ◌&&◌, Option, sym, ap, ◌∙◌, inl, inr}
use mathlib.Core.Bool.{false≢true}
use Rattle.std.proofs.lemmas.Bool.{and_from, both_ways, cases_Bool, cases_eq, not_from_false}
use Rattle.model.specs.declared.pair.Pair.{Pair}
use Rattle.model.specs.declared.order.Order.TheVariants.{Create, Bind, Change, Unbind, Delete}
use Rattle.model.specs.Universe.{Universe}
use Rattle.model.specs.Config.{Config, moved, provided, required}
use Rattle.model.specs.Gaps.{Gap, GapFree}
use Rattle.model.specs.Orders.{result_of}
use Rattle.model.specs.Laws.{OpeningLaw}
use Rattle.model.proofs.Results.{create_at, create_off, create_bound, create_keeps, bind_inst, bind_keeps, change_at, change_off, change_bound, unbind_inst, unbind_off, delete_at, delete_off, delete_bound_off, delete_apart}

-- each provider that z had at p in c it has in d
abbrev pub Kept : Universe → Config → Config → ℕ → ℕ → Type 0
Kept u c d z p =
    (x : ℕ) → c.bound p x z ≡ true → provided u p (c.inst x) ≡ true → (d.bound p x z ≡ true) × (provided u p (d.inst x) ≡ true)

-- an instance that stays as it was, with its providers, has no new gap
pub no_gap : (u : Universe) (c d : Config) (z p : ℕ) → GapFree u c → d.inst z ≡ c.inst z → Kept u c d z p → Gap u d z p → ⊥
no_gap u c d z p free stays kept g =
    free z p (record {
      requires = ap (required u p) (sym stays) ∙ g.requires;
      uncovered = λ x b q. let k = kept x b q in g.uncovered x k.0 k.1;
    })

-- what stands at a gap requires its port
requires_at : (u : Universe) (c : Config) (z z' p : ℕ) (o : Option Pair) → z ≡ z' → c.inst z' ≡ o → Gap u c z p → required u p o ≡ true
requires_at u c z z' p o e at g = sym (ap (λ n. required u p (c.inst n)) e ∙ ap (required u p) at) ∙ g.requires

-- z' provides p to z, and not in the state q
abbrev stops : Universe → Config → ℕ → ℕ → ℕ → ℕ → Bool
stops u c z' q z p = c.bound p z' z && (provided u p (c.inst z') && not (provided u p (moved (c.inst z') q)))

-- a provider that does not stop providing is kept, and so are all others
change_kept : (u : Universe) (c : Config) (z' q z p : ℕ) → stops u c z' q z p ≡ false → Kept u c (result_of (Change z' q) c) z p
change_kept u c z' q z p goes_on x b v = (
  change_bound c z' q p x z ∙ b,
  elim (cases_eq x z') [
    | inl e ↦ rw (e, change_at c z' q) (still (rw e at b) (rw e at v))
    | inr ne ↦ ap (provided u p) (change_off c z' q x ne) ∙ v
  ],
)
  where
    still : c.bound p z' z ≡ true → provided u p (c.inst z') ≡ true → provided u p (moved (c.inst z') q) ≡ true
    still b v =
        elim (cases_Bool (provided u p (moved (c.inst z') q))) [
          | inl e ↦ e
          | inr e ↦ absurd (both_ways _ goes_on (and_from _ _ b (and_from _ _ v (not_from_false _ e))))
        ]

-- an order leaves no gap but where it can open one
pub opening_law : OpeningLaw
opening_law u c (Create z' t) ok free l z p g =
    elim (cases_eq z z') [
      | inl e ↦ both_ways (u.requires t 0 p) (ok.initial t p) (requires_at u _ z z' p _ e (create_at c z' t) g)
      | inr ne ↦ no_gap u c _ z p free (create_off c z' t z ne) (λ x b v. (create_bound c z' t p x z ∙ b, create_keeps c z' t l.0 _ x v)) g
    ]
opening_law u c (Bind j) ok free l z p g =
    no_gap u c _ z p free (bind_inst c j z) (λ x' b v. (bind_keeps c j p x' z b, ap (provided u p) (bind_inst c j x') ∙ v)) g
opening_law u c (Change z' q) ok free l z p g =
    elim (cases_eq z z') [
      | inl e ↦ inl e
      | inr ne ↦ elim (cases_Bool (stops u c z' q z p)) [
        | inl lost ↦ inr lost
        | inr goes_on ↦ absurd (no_gap u c _ z p free (change_off c z' q z ne) (change_kept u c z' q z p goes_on) g)
      ]
    ]
opening_law u c (Unbind j) ok free l z p g =
    elim (cases_eq z j.requirer) [
      | inl ez ↦ elim (cases_eq p j.port) [
        | inl ep ↦ (ez, ep)
        | inr np ↦ absurd (elsewhere (λ e. np e.1))
      ]
      | inr nz ↦ absurd (elsewhere (λ e. nz e.0))
    ]
  where
    elsewhere : ((z ≡ j.requirer) × (p ≡ j.port) → ⊥) → ⊥
    elsewhere ne = no_gap u c _ z p free (unbind_inst c j z) (λ x' b v.
        (unbind_off c j p x' z (λ e. ne (e.2, e.0)) ∙ b, ap (provided u p) (unbind_inst c j x') ∙ v)) g
opening_law u c (Delete z') ok free l z p g =
    elim (cases_eq z z') [
      | inl e ↦ false≢true (requires_at u _ z z' p _ e (delete_at c z') g)
      | inr ne ↦ no_gap u c _ z p free (delete_off c z' z ne) (λ x b v.
          (delete_bound_off c z' p x z ne ∙ b, ap (provided u p) (delete_off c z' x (delete_apart c z' l p x z b)) ∙ v)) g
    ]
