-- The law over runs of scripts, for every host.
use Rattle.std.specs.Prelude.{◌≡◌, ◌+◌, ◌*◌, ◌≤◌, List, All, Some, None, Option, length, take, count_by}
use Rattle.model.specs.declared.order.Order.{Order}
use Rattle.model.specs.Config.{WellFormed}
use Rattle.model.specs.Gaps.{GapFree}
use Rattle.model.specs.Runs.{RunsFrom, after}
use Rattle.hosts.specs.declared.load.Load.{Load}
use Rattle.hosts.specs.Survey.{Lawful, bindings_of}
use Rattle.hosts.specs.Service.{Sane}
use Rattle.hosts.specs.Answers.{Answer, Meaning, is_bind, is_create, reason_of}
use Rattle.hosts.specs.Laws.{Expected, InRange}
use Rattle.execution.specs.Steps.{Progress, Step, Steps, begun, leases, reached}

-- where a run of the script may start: the host keeps its two laws, what stands is well formed and gap-free, and from
-- there the script is a run with its numbers in range
pub record Start (os : List Order) (m : Meaning) : Type 0 where
  pub lawful : Lawful m.situation
  pub sane : Sane m.service
  pub formed : WellFormed m.situation.universe m.situation.config
  pub gap_free : GapFree m.situation.universe m.situation.config
  pub run : RunsFrom m.situation.universe m.situation.config os
  pub range : All InRange os

-- no answer, or one of done, busy and full
abbrev pub AsExpected : Option Answer → Type 0
AsExpected None = Unit {0}
AsExpected (Some r) = Expected (reason_of r)

-- what holds wherever a run from m has come: what stands is what the lines before the place lead to, it is well formed and
-- has no gap, and the host keeps its laws and its profile; bindings made less those ended are those that stand less those
-- that stood, so where none stood, the leases are the bindings that stand
pub record Intact (os : List Order) (m : Meaning) (a : Progress) : Type 0 where
  pub place : a.place ≤ length os
  pub stands : a.host.situation ≡ record { universe = m.situation.universe; config = after m.situation.config (take a.place os) }
  pub gap_free : GapFree a.host.situation.universe a.host.situation.config
  pub lawful : Lawful a.host.situation
  pub formed : WellFormed a.host.situation.universe a.host.situation.config
  pub sane : Sane a.host.service
  pub profile : a.host.service.profile ≡ m.service.profile
  pub counted : a.made + bindings_of m.situation ≡ bindings_of a.host.situation + a.ended
  pub leases : bindings_of m.situation ≡ 0 → leases a ≡ bindings_of a.host.situation

-- whatever the host, after every step of every run from a start all of this holds, and the answer, if there was one, was
-- done, busy or full
abbrev pub StepsLaw : Type 0
StepsLaw =
    (os : List Order) (m : Meaning) (ts : List Step) → Start os m → Steps os (begun m) ts →
    All (λ t. Intact os m t.progress × AsExpected t.answer) ts

-- the allowances cover the script: they are at least its creates and its binds, those too that later orders undo, since a
-- host need not give an allowance back
abbrev pub CoversAll : List Order → Load → Type 0
CoversAll os l = (count_by is_create os ≤ l.creations) × (count_by is_bind os ≤ l.bindings)

-- where the allowances cover the script, lines × (longest wait + 1) steps or more end behind the last line, and what stands
-- is what all lines lead to
abbrev pub EndsLaw : Type 0
EndsLaw =
    (os : List Order) (m : Meaning) (ts : List Step) → Start os m → Steps os (begun m) ts → CoversAll os m.service.load →
    length os * (m.service.profile.longest + 1) ≤ length ts →
    ((reached (begun m) ts).place ≡ length os) ×
    ((reached (begun m) ts).host.situation ≡ record { universe = m.situation.universe; config = after m.situation.config os })
