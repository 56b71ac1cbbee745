-- What would stand, number by number. Assumes nothing.
use Rattle.std.proofs.Common.{◌≡◌, ℕ, Bool, cond, not, ◌&&◌, ◌==◌, Option, sym, refl, ap, ◌∙◌, inl, inr}
use Rattle.std.proofs.lemmas.Bool.{cases_eq, eq-eqb, ne_eqb}
use Rattle.model.specs.declared.pair.Pair.{Pair}
use Rattle.model.specs.Config.{Config, moved}
use Rattle.model.specs.Bounded.{Below}
use Rattle.model.proofs.Results.{change_at, change_off, change_bound, unbind_bound, unbind_inst, unbind_was}
use Rattle.rules.specs.declared.gaps.Prospect.{Prospect}
use Rattle.rules.specs.declared.gaps.Prospect.TheVariants.{Present, Changed, Unbound}
use Rattle.model.specs.Orders.{same}
use Rattle.rules.specs.Finding.{foreseen}

-- what would stand under the number y
abbrev pub pair_foreseen : Prospect → Config → ℕ → Option Pair
pair_foreseen Present c y = c.inst y
pair_foreseen (Changed z q) c y = cond (y == z) (moved (c.inst y) q) (c.inst y)
pair_foreseen (Unbound b) c y = c.inst y

-- the binding would stand
abbrev pub bound_foreseen : Prospect → Config → ℕ → ℕ → ℕ → Bool
bound_foreseen Present c p' x' y' = c.bound p' x' y'
bound_foreseen (Changed z q) c p' x' y' = c.bound p' x' y'
bound_foreseen (Unbound b) c p' x' y' = c.bound p' x' y' && not (same b.port b.provider b.requirer p' x' y')

pub at_foreseen : (k : Prospect) (c : Config) (y : ℕ) → (foreseen k c).inst y ≡ pair_foreseen k c y
at_foreseen Present c y = refl
at_foreseen (Changed z q) c y =
    elim (cases_eq y z) [
      | inl e ↦ rw (eq-eqb y z e) (ap (foreseen (Changed z q) c).inst e ∙ change_at c z q ∙ ap (λ n. moved (c.inst n) q) (sym e))
      | inr ne ↦ rw (ne_eqb y z ne) (change_off c z q y ne)
    ]
at_foreseen (Unbound b) c y = unbind_inst c b y

pub binding_foreseen : (k : Prospect) (c : Config) (p x y : ℕ) → (foreseen k c).bound p x y ≡ bound_foreseen k c p x y
binding_foreseen Present c p x y = refl
binding_foreseen (Changed z q) c p x y = change_bound c z q p x y
binding_foreseen (Unbound b) c p x y = unbind_bound c b p x y

-- nothing would stand from n on
pub foreseen_below : (n : ℕ) (k : Prospect) (c : Config) → Below n c → Below n (foreseen k c)
foreseen_below n Present c low = low
foreseen_below n (Changed z q) c low =
    record {
      inst = λ y out. elim (cases_eq y z) [
        | inl e ↦ ap (foreseen (Changed z q) c).inst e ∙ change_at c z q ∙ ap (λ m. moved (c.inst m) q) (sym e) ∙ ap (λ o. moved o q) (low.inst y out)
        | inr ne ↦ change_off c z q y ne ∙ low.inst y out
      ];
      bound = λ p x y b. low.bound p x y (sym (change_bound c z q p x y) ∙ b);
    }
foreseen_below n (Unbound b) c low =
    record {
      inst = λ y out. unbind_inst c b y ∙ low.inst y out;
      bound = λ p' x' y' h. low.bound p' x' y' (unbind_was c b p' x' y' h);
    }
