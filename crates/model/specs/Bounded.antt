-- The search for gaps among the instances below a bound, which a program can make.
use Rattle.std.specs.Prelude.{◌≡◌, ℕ, ◌<◌, ◌≤◌, Bool, true, not, ◌&&◌, None}
use Rattle.model.specs.Search.{any, one, sum_below}
use Rattle.model.specs.Universe.{Universe}
use Rattle.model.specs.Config.{Config, provided, required}

-- nothing stands from n on, neither an instance nor a provider or requirer of a binding
pub record Below (n : ℕ) (c : Config) : Type 0 where
  pub inst : (z : ℕ) → n ≤ z → c.inst z ≡ None
  pub bound : (p x y : ℕ) → c.bound p x y ≡ true → (x < n) × (y < n)

-- some binding on p to z has a provider below n whose state provides p
unfoldable pub covered : ℕ → Universe → Config → ℕ → ℕ → Bool
covered n u c z p = any (λ x. c.bound p x z && provided u p (c.inst x)) n

-- how many bindings on p to z have a provider below n whose state provides p
unfoldable pub covers : ℕ → Universe → Config → ℕ → ℕ → ℕ
covers n u c z p = sum_below (λ x. one (c.bound p x z && provided u p (c.inst x))) n

-- z has a gap at p
unfoldable pub gap_at : ℕ → Universe → Config → ℕ → ℕ → Bool
gap_at n u c z p = required u p (c.inst z) && not (covered n u c z p)

-- some instance below n has a gap
unfoldable pub any_gap : ℕ → Universe → Config → Bool
any_gap n u c = any (λ z. any (gap_at n u c z) u.ports) n
