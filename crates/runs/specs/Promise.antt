-- What is promised of a request that is run.
use Rattle.std.specs.Prelude.{◌≡◌, ℕ, ◌+◌, ◌*◌, ◌≤◌, List, [], ◌∷◌, All, length, map, take, Some, None, Ok, Err, Option, Result, slice_get}
use Rattle.model.specs.declared.order.Order.{Order}
use Rattle.model.specs.Universe.{Universe}
use Rattle.model.specs.Config.{Config, empty}
use Rattle.model.specs.Gaps.{GapFree}
use Rattle.model.specs.Runs.{after}
use Rattle.hosts.specs.Survey.{bindings_of}
use Rattle.hosts.specs.Answers.{Answer, Meaning}
use Rattle.plans.specs.Goals.{Met, Reaches}
use Rattle.planner.specs.Goals.{goal_of}
use Rattle.planner.specs.Planning.{planned}
use Rattle.checking.specs.Passing.{PassesAs}
use Rattle.execution.specs.Steps.{Progress, Step, Steps, begun, leases, reached}
use Rattle.execution.specs.Laws.{AsExpected, CoversAll}
use Rattle.executor.specs.declared.fault.StepFault.{StepFault}
use Rattle.executor.specs.declared.fault.StepFault.TheVariants.{NoLine}
use Rattle.executor.specs.Steps.{answer_at}
use Rattle.runs.specs.declared.request.Act.{Act}
use Rattle.runs.specs.declared.request.Action.{Action}
use Rattle.runs.specs.declared.request.Ran.{Ran}
use Rattle.runs.specs.declared.request.Request.{Request}
use Rattle.runs.specs.declared.request.Request.TheVariants.{Goal, Script}
use Rattle.runs.specs.Refusals.{lines_run}

-- what a step of a run answers to the caller: the host's answer, and with a refusal the place and the order; or that no line
-- is left; by the definition of a step there is an answer exactly if there is an order
abbrev pub step_answer : ℕ → Option Order → Option Answer → Result (Unit {0}) StepFault
step_answer place (Some o) (Some r) = answer_at place o r
step_answer place (Some o) None = Err NoLine
step_answer place None r = Err NoLine

-- the answers of the steps of a run, from a on, where these orders are at the places
unfoldable pub step_answers : (ℕ → Option Order) → Progress → List Step → List (Result (Unit {0}) StepFault)
step_answers orders a [] = []
step_answers orders a (t ∷ ts) = step_answer a.place (orders a.place) t.answer ∷ step_answers orders t.progress ts

-- the actions, and the answers that stand in their places
abbrev pub actions_of : List Act → List Action
actions_of acts = map (λ a. a.action) acts

abbrev pub answers_of : List Act → List (Option (Result (Unit {0}) StepFault))
answers_of acts = map (λ a. a.answer) acts

-- the call's own steps are a run of the orders, by the law over runs: from what the host meant at its entry, m, to what it
-- means at its exit, n; one step for each action, with its answer in the action's place, and the actions stay; and where it
-- ends is what is answered, the leases being binds done less bindings ended
pub record OwnRun (os : List Order) (m n : Meaning) (before after : List Act) (r : Ran) : Type 0 where
  pub steps : List Step
  pub run : Steps os (begun m) steps
  pub each : length steps ≡ length before
  pub actions : actions_of after ≡ actions_of before
  pub answers : answers_of after ≡ map Some (step_answers (slice_get os) (begun m) steps)
  pub host : (reached (begun m) steps).host ≡ n
  pub place : (reached (begun m) steps).place ≡ r.place
  pub leases : leases (reached (begun m) steps) ≡ r.leases

-- of a goal, the orders are those planned, a run that reaches it
abbrev pub AsPlanned : Universe → Request → List Order → Type 0
AsPlanned u (Goal bs) os = (planned u bs.now ≡ Ok os) × Reaches u os (goal_of bs.now)
AsPlanned u (Script xs) os = Unit {0}

-- a goal is met
abbrev pub GoalMet : Request → Config → Type 0
GoalMet (Goal bs) c = Met (goal_of bs.now) c
GoalMet (Script xs) c = Unit {0}

-- the run has come to its end: no line is left, what stands is what all lines lead to, and a goal is met
pub record Ended (request : Request) (os : List Order) (m : Meaning) (a : Progress) : Type 0 where
  pub place : a.place ≡ length os
  pub stands : a.host.situation ≡ record { universe = m.situation.universe; config = after empty os }
  pub met : GoalMet request a.host.situation.config

-- what holds after a step of a run from m, where nothing stood: nothing has a gap; the host's answer, if there was one, was
-- done, busy or full; the leases are the bindings that stand; and what stands is what the lines before the place lead to
pub record HoldsAfter (os : List Order) (m : Meaning) (t : Step) : Type 0 where
  pub gap_free : GapFree t.progress.host.situation.universe t.progress.host.situation.config
  pub answer : AsExpected t.answer
  pub leases : leases t.progress ≡ bindings_of t.progress.host.situation
  pub stands : t.progress.host.situation ≡ record { universe = m.situation.universe; config = after empty (take t.progress.place os) }

-- what is promised of a request that is run, where the host meant m at the entry and means n at the exit, the caller's list
-- is xs afterwards, and the actions were `before`
pub record Promised (request : Request) (m n : Meaning) (xs : List ℕ) (before after : List Act) (r : Ran) : Type 0 where
  -- its lines pass as these orders
  pub orders : List Order
  pub passes : PassesAs m.situation.universe (lines_run request xs r.lines) orders
  pub lines : r.lines ≡ length orders
  pub planned : AsPlanned m.situation.universe request orders
  -- nothing stood in the host
  pub empty : m.situation.config ≡ empty
  -- what the call itself did is a run of them
  pub own : OwnRun orders m n before after r
  -- where it is finished, nothing has a gap, and the leases that are answered are the bindings that stand
  pub gap_free : GapFree n.situation.universe n.situation.config
  pub leases : r.leases ≡ bindings_of n.situation
  -- and so after every step of every run of them, whatever the steps
  pub every : (ts : List Step) → Steps orders (begun m) ts → All (HoldsAfter orders m) ts
  -- where the allowances cover them, every run of lines × (longest wait + 1) steps or more comes to its end
  pub ends : (ts : List Step) → Steps orders (begun m) ts → CoversAll orders m.service.load →
      length orders * (m.service.profile.longest + 1) ≤ length ts → Ended request orders m (reached (begun m) ts)
