-- How the number of bindings moves where a provider gives a requirer a set of ports. Assumes nothing.
use Rattle.std.proofs.Common.{◌≡◌, ℕ, zero, suc, ◌+◌, ◌<◌, Bool, false, ◌≢◌, refl, ap, arith}
use Rattle.model.specs.Search.{one, sum_below}
use Rattle.model.specs.Config.{Config}
use Rattle.model.specs.Counts.{bindings}
use Rattle.model.proofs.Sums.{sum_same}
use Rattle.model.proofs.Sums.{sum_moved}

-- terms that are sums of two, and their sum
sum_both : (f g h : ℕ → ℕ) (n : ℕ) → ((p : ℕ) → h p ≡ f p + g p) → sum_below h n ≡ sum_below f n + sum_below g n
unfolding sum_below
sum_both f g h zero e = refl
sum_both f g h (suc n) e = let before = sum_both f g h n e in let here = e n in omega arith

module _ (n : ℕ) (c d : Config) (x y : ℕ) (lx : x < n) (ly : y < n) (s : ℕ → Bool)
    (others : (p x' y' : ℕ) → ((x' ≡ x) × (y' ≡ y) → ⊥) → d.bound p x' y' ≡ c.bound p x' y')
    (new : (p : ℕ) → c.bound p x y ≡ false) (is : (p : ℕ) → d.bound p x y ≡ s p) where
  abbrev of : Config → ℕ → ℕ → ℕ
  of c p x' = sum_below (λ y'. one (c.bound p x' y')) n

  to_others : (p x' : ℕ) → x' ≢ x → of d p x' ≡ of c p x'
  to_others p x' ne = sum_same (λ y'. one (c.bound p x' y')) (λ y'. one (d.bound p x' y')) n (λ y'. ap one (others p x' y' (λ e. ne e.0)))

  at_port : (p : ℕ) → sum_below (of d p) n ≡ sum_below (of c p) n + one (s p)
  at_port p =
      let far = sum_moved (of c p) (of d p) x n lx (to_others p) in
      let near = sum_moved (λ y'. one (c.bound p x y')) (λ y'. one (d.bound p x y')) y n ly (λ y' ne. ap one (others p x y' (λ e. ne e.1))) in
      let near' = rw (new p, is p) at near in
      omega (arith, far, near')

  -- the set is as many bindings more as it has ports
  pub bindings_with : (m : ℕ) → bindings m n d ≡ bindings m n c + sum_below (λ p. one (s p)) m
  unfolding bindings
  bindings_with m = sum_both (λ p. sum_below (of c p) n) (λ p. one (s p)) (λ p. sum_below (of d p) n) m at_port
