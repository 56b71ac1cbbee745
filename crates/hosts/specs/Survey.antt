-- Surveys: what a survey means, and the one law that every survey keeps.
use Rattle.std.specs.Prelude.{◌≡◌, ℕ, ◌<◌, ◌≤◌, Bool, true, None}
use Rattle.model.specs.Universe.{Universe, Valid}
use Rattle.model.specs.Config.{Config}
use Rattle.model.specs.Bounded.{any_gap, covers}
use Rattle.model.specs.Counts.{instances, bindings}

-- a universe, and the configuration that stands
pub record Situation : Type 0 where
  pub universe : Universe
  pub config : Config

-- the law of surveys: the universe is a valid one, and nothing stands out of range, neither an instance above 255
-- nor a binding with an end above 255 or a port that the universe has not
pub record Lawful (s : Situation) : Type 0 where
  pub valid : Valid s.universe
  pub inst : (z : ℕ) → 256 ≤ z → s.config.inst z ≡ None
  pub bound : (p x y : ℕ) → s.config.bound p x y ≡ true → (p < s.universe.ports) × (x < 256) × (y < 256)

-- some instance that stands has a gap; here and below, all that stands is looked at by looking below 256 and 32, by the law
-- of surveys
abbrev pub has_gap : Situation → Bool
has_gap s = any_gap 256 s.universe s.config

-- how many instances stand
abbrev pub instances_of : Situation → ℕ
instances_of s = instances 256 s.config

-- how many bindings stand
abbrev pub bindings_of : Situation → ℕ
bindings_of s = bindings 32 256 s.config

-- how many bindings cover the port p of the instance z
abbrev pub covers_of : Situation → ℕ → ℕ → ℕ
covers_of s p z = covers 256 s.universe s.config z p
