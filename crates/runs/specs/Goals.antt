-- Whether a goal is met, told of a survey.
use Rattle.std.specs.Prelude.{◌≡◌, ◌↔◌, Bool, true, false, List, Some, None, Option}
use Rattle.std.specs.List.{list_all}
use Rattle.model.specs.declared.pair.Pair.{Pair}
use Rattle.model.specs.Search.{any}
use Rattle.model.specs.Config.{Config}
use Rattle.hosts.specs.Survey.{Situation}
use Rattle.plans.specs.Goals.{Met}
use Rattle.plans.specs.Lists.{same_pair}

-- what stands is the pair
abbrev pub is_pair : Pair → Option Pair → Bool
is_pair h (Some g) = same_pair g h
is_pair h None = false

-- some instance below 256 stands in the pair
abbrev pub attained : Config → Pair → Bool
attained c h = any (λ z. is_pair h (c.inst z)) 256

-- each pair of the goal has such an instance
abbrev pub met : Config → List Pair → Bool
met c goal = list_all (attained c) goal

-- so it is told exactly if the goal is met
abbrev pub TellsMet : Situation → List Pair → Bool → Type 0
TellsMet s goal r = (r ≡ true) ↔ Met goal s.config
