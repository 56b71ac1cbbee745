-- The search for the first gap, and what it tells.
use Rattle.std.specs.Prelude.{◌≡◌, is_some, ℕ, ◌<◌, Bool, cond, ◌&&◌, ◌||◌, Some, None, Option, nat_lt}
use Rattle.model.specs.declared.order.Order.TheVariants.{Change, Unbind}
use Rattle.model.specs.Search.{find_first, one}
use Rattle.model.specs.Universe.{Universe}
use Rattle.model.specs.Config.{Config, provided}
use Rattle.model.specs.Gaps.{Gap, GapFree}
use Rattle.model.specs.Orders.{result_of}
use Rattle.model.specs.Bounded.{gap_at, any_gap}
use Rattle.rules.specs.declared.gaps.FoundGap.{FoundGap}
use Rattle.hosts.specs.Survey.{Situation, covers_of}
use Rattle.rules.specs.declared.gaps.Prospect.{Prospect}
use Rattle.rules.specs.declared.gaps.View.{View}
use Rattle.rules.specs.declared.gaps.Prospect.TheVariants.{Present, Changed, Unbound}

-- what would stand
abbrev pub foreseen : Prospect → Config → Config
foreseen Present c = c
foreseen (Changed z q) c = result_of (Change z q) c
foreseen (Unbound b) c = result_of (Unbind b) c

-- what would stand in a survey, where s tells what stands
abbrev pub viewed : {S : Type 0} → (S → Situation) → View S → Situation
viewed s v = record { universe = (s v.survey.now).universe; config = foreseen v.prospect (s v.survey.now).config }

-- the provider whose bindings may come to cover, or cease to
abbrev pub mover : Prospect → Option ℕ
mover Present = None
mover (Changed z q) = Some z
mover (Unbound b) = Some b.provider

-- x covers the port p of z
abbrev pub does_cover : Universe → Config → ℕ → ℕ → ℕ → Bool
does_cover u c p x z = provided u p (c.inst x) && c.bound p x z

-- the port p of z would be covered, told by counts: the mover would cover it, or more than the mover cover it now
abbrev pub covered_by_count : Option ℕ → Prospect → Situation → ℕ → ℕ → Bool
covered_by_count None k s p z = nat_lt 0 (covers_of s p z)
covered_by_count (Some x) k s p z =
    does_cover s.universe (foreseen k s.config) p x z || nat_lt (one (does_cover s.universe s.config p x z)) (covers_of s p z)

-- the gap of the instance z at the port p, if there is one
abbrev pub gap_here : Universe → Config → ℕ → ℕ → Option FoundGap
gap_here u c z p = cond (gap_at 256 u c z p) (Some (record { instance = z; port = p })) None

-- the first gap of the instance z, by port
unfoldable pub first_gap_at : Universe → Config → ℕ → Option FoundGap
first_gap_at u c z = find_first (gap_here u c z) u.ports

-- the first gap, by instance and then by port
unfoldable pub first_gap_in : Universe → Config → Option FoundGap
first_gap_in u c = find_first (first_gap_at u c) 256

-- there is a gap, and none before it
pub record FirstGap (u : Universe) (c : Config) (g : FoundGap) : Type 0 where
  pub gap : Gap u c g.instance g.port
  pub earlier : (z p : ℕ) → z < g.instance → Gap u c z p → ⊥
  pub lower : (p : ℕ) → p < g.port → Gap u c g.instance p → ⊥

-- nothing is found exactly if nothing has a gap, and what is found is the first gap
abbrev pub TellsGaps : Universe → Config → Option FoundGap → Type 0
TellsGaps u c None = GapFree u c
TellsGaps u c (Some g) = FirstGap u c g

-- the first gap is found
pub record Finds (u : Universe) (c : Config) (r : Option FoundGap) : Type 0 where
  pub value : r ≡ first_gap_in u c
  pub law : TellsGaps u c r
  pub whole : is_some r ≡ any_gap 256 u c
