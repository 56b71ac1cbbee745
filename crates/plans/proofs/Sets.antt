-- The ports at which an instance is bound while it steps from one state to another. Assumes nothing.
use Rattle.std.proofs.Common.{◌≡◌, ℕ, suc, ◌<◌, Bool, true, false, not, ◌&&◌, ◌||◌, nat_lt, arith}
use Rattle.std.proofs.Math.Path.{fun_ext}
use Rattle.std.proofs.lemmas.Bool.Decides.{nat_tests}
use Rattle.model.specs.Orders.{put}

-- from a state that requires the ports of a to one that requires those of b
module _ (a b : ℕ → Bool) where
  -- bound: the ports of a, and those of b below i
  abbrev pub gained : ℕ → ℕ → Bool
  gained i p = a p || (nat_lt p i && b p)

  -- unbound: the ports of b, and those of a from i on
  abbrev pub lost : ℕ → ℕ → Bool
  lost i p = b p || (not (nat_lt p i) && a p)

  -- how either goes on from port to port
  pub gained_none : gained 0 ≡ a
  gained_none = fun_ext (λ p. grind (arith, nat_tests))

  pub gained_more : (i : ℕ) → b i ≡ true → gained (suc i) ≡ put (gained i) i true
  gained_more i e = fun_ext (λ p. grind (arith, nat_tests))

  pub gained_same : (i : ℕ) → (b i && not (a i)) ≡ false → gained (suc i) ≡ gained i
  gained_same i e = fun_ext (λ p. grind (arith, nat_tests))

  pub lost_more : (i : ℕ) → b i ≡ false → lost (suc i) ≡ put (lost i) i false
  lost_more i e = fun_ext (λ p. grind (arith, nat_tests))

  pub lost_same : (i : ℕ) → (a i && not (b i)) ≡ false → lost (suc i) ≡ lost i
  lost_same i e = fun_ext (λ p. grind (arith, nat_tests))

  -- where it ends, if there are no ports from m on
  pub gained_lost : (m : ℕ) → ((p : ℕ) → b p ≡ true → p < m) → gained m ≡ lost 0
  gained_lost m h = fun_ext (λ p. grind (arith, nat_tests, h p))

  pub lost_all : (m : ℕ) → ((p : ℕ) → a p ≡ true → p < m) → lost m ≡ b
  lost_all m h = fun_ext (λ p. grind (arith, nat_tests, h p))
