-- The search for gaps only where a change or an unbind can open one.
use Rattle.std.specs.Prelude.{◌≡◌, ℕ, Bool, false, not, ◌&&◌, ◌||◌, ◌==◌, None, Option}
use Rattle.model.specs.declared.binding.Binding.{Binding}
use Rattle.model.specs.declared.pair.Pair.{Pair}
use Rattle.model.specs.declared.order.Order.TheVariants.{Change, Unbind}
use Rattle.model.specs.Search.{any, one}
use Rattle.model.specs.Config.{provided, required}
use Rattle.model.specs.Bounded.{any_gap}
use Rattle.universe.specs.Sets.{has}
use Rattle.hosts.specs.declared.refusal.Offence.{Offence}
use Rattle.hosts.specs.Offences.{offence}
use Rattle.hosts.specs.Survey.{Situation, covers_of, has_gap}
use Rattle.rules.specs.declared.gaps.Prospect.{Prospect}
use Rattle.rules.specs.declared.gaps.Prospect.TheVariants.{Present, Changed, Unbound}
use Rattle.rules.specs.Finding.{foreseen}

-- what would stand under a number
abbrev pub after : Prospect → Situation → ℕ → Option Pair
after k s = (foreseen k s.config).inst

-- z would require the port p, nothing covers it there now, and z would not provide it to itself
abbrev pub lacks : Prospect → Situation → ℕ → ℕ → Bool
lacks k s z p =
    required s.universe p (after k s z) && covers_of s p z == 0 && not (provided s.universe p (after k s z) && s.config.bound p z z)

-- z provides the port p, and would not
abbrev pub loses : Prospect → Situation → ℕ → ℕ → Bool
loses k s z p = provided s.universe p (s.config.inst z) && not (provided s.universe p (after k s z))

-- the set holds the ports that z loses
pub record Loses (k : Prospect) (s : Situation) (z set : ℕ) : Type 0 where
  pub ports : (p : ℕ) → has 32 set p ≡ loses k s z p

-- x alone covers the port p of y now, if it provides the port
abbrev pub alone : Situation → ℕ → ℕ → ℕ → Bool
alone s p x y = covers_of s p y == 1 && s.config.bound p x y

-- y would require the port p, which z loses and alone covers there now
abbrev pub uncovers : Prospect → Situation → ℕ → ℕ → ℕ → Bool
uncovers k s z y p = required s.universe p (after k s y) && loses k s z p && alone s p z y

-- a change of z opens a gap: z lacks a port, or uncovers one of some instance
abbrev pub change_opens : Prospect → Situation → ℕ → Bool
change_opens k s z = any (lacks k s z) s.universe.ports || any (λ y. any (uncovers k s z y) s.universe.ports) 256

-- an unbind opens a gap: the requirer requires the port, and nothing but this binding covers it
abbrev pub unbind_opens : Situation → Binding → Bool
unbind_opens s b =
    required s.universe b.port (s.config.inst b.requirer) && covers_of s b.port b.requirer == one (provided s.universe b.port (s.config.inst b.provider))

-- what is foreseen opens a gap, by counts of what covers each port now
unfoldable pub opens : Prospect → Situation → Bool
opens Present s = has_gap s
opens (Changed z q) s = change_opens (Changed z q) s z
opens (Unbound b) s = unbind_opens s b

-- the offence of the order that is foreseen
abbrev pub offence_foreseen : Prospect → Situation → Option Offence
offence_foreseen Present s = None
offence_foreseen (Changed z q) s = offence (Change z q) s
offence_foreseen (Unbound b) s = offence (Unbind b) s

-- where nothing has a gap yet, an order without offence leaves one exactly if it opens one there
abbrev pub OpensAll : Situation → Prospect → Bool → Type 0
OpensAll s k r =
    has_gap s ≡ false → offence_foreseen k s ≡ None → r ≡ any_gap 256 s.universe (foreseen k s.config)
