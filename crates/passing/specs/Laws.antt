-- What passing the check means: that the planner's scripts pass, and that what passes can be run on every empty host.
use Rattle.std.specs.Prelude.{◌≡◌, ℕ, List, length, take, Ok}
use Rattle.model.specs.declared.order.Order.{Order}
use Rattle.model.specs.Config.{empty}
use Rattle.model.specs.Universe.{Universe, Valid}
use Rattle.hosts.specs.Survey.{Lawful, Situation}
use Rattle.hosts.specs.Service.{Sane}
use Rattle.hosts.specs.Answers.{Meaning}
use Rattle.planner.specs.Planning.{list_after, plan_answer, planned}
use Rattle.checking.specs.declared.stages.Draft.{Draft}
use Rattle.checking.specs.Checking.{checked}
use Rattle.checking.specs.Passing.{PassesAs}
use Rattle.execution.specs.Laws.{Start}

-- where the planner answers how many lines it wrote into a list, these lines pass as the script's orders in the universe
-- planned from
abbrev pub PlannedPassesLaw : Type 0
PlannedPassesLaw =
    (u : Universe) (goal xs : List ℕ) (os : List Order) (n : ℕ) → Valid u → planned u goal ≡ Ok os → plan_answer (planned u goal) (length xs) ≡ Ok n →
    PassesAs u (take n (list_after (planned u goal) xs)) os

-- so the check passes them on every empty host of that universe
abbrev pub PlannedCheckedLaw : Type 0
PlannedCheckedLaw =
    (s : Situation) (goal xs : List ℕ) (n : ℕ) (d : Draft) → Lawful s → s.config ≡ empty → plan_answer (planned s.universe goal) (length xs) ≡ Ok n →
    d.lines.now ≡ take n (list_after (planned s.universe goal) xs) → checked s d ≡ Ok (record { lines = d.lines })

-- every empty host whose universe the lines pass in is a start for their orders
abbrev pub StartLaw : Type 0
StartLaw =
    (xs : List ℕ) (os : List Order) (m : Meaning) → Lawful m.situation → Sane m.service → m.situation.config ≡ empty → PassesAs m.situation.universe xs os →
    Start os m
