-- Gaps: a required port that no provider covers now.
use Rattle.std.specs.Prelude.{◌≡◌, ℕ, true, ◌≢◌}
use Rattle.model.specs.Universe.{Universe}
use Rattle.model.specs.Config.{Config, provided, required}

-- the instance z has a gap at the port p: its state requires p, and no binding on p with the requirer z
-- has a provider whose state provides p
pub record Gap (u : Universe) (c : Config) (z p : ℕ) : Type 0 where
  pub requires : required u p (c.inst z) ≡ true
  pub uncovered : (x : ℕ) → c.bound p x z ≡ true → provided u p (c.inst x) ≢ true

-- no instance has a gap
abbrev pub GapFree : Universe → Config → Type 0
GapFree u c = (z p : ℕ) → Gap u c z p → ⊥
