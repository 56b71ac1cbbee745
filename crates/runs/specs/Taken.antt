-- The steps that a call takes, in the terms of its host; and its refusals and lines, as the calls that it makes tell them one
-- after the other.
use Rattle.std.specs.Prelude.{◌≡◌, ℕ, ◌-◌, List, length, map, take, Some, Ok, Err, Option, Result}
use Rattle.model.specs.declared.order.Order.{Order}
use Rattle.model.specs.Universe.{Universe}
use Rattle.hosts.specs.Survey.{Situation}
use Rattle.hosts.specs.Service.{Service}
use Rattle.hosts.specs.Answers.{Answer}
use Rattle.planner.specs.declared.refusal.PlanRefusal.{PlanRefusal}
use Rattle.planner.specs.Planning.{list_after, plan_answer, planned}
use Rattle.checking.specs.Checking.{lines_checked}
use Rattle.executor.specs.declared.fault.StepFault.{StepFault}
use Rattle.executor.specs.Steps.{Running, TakesAll, beginning}
use Rattle.runs.specs.declared.request.Act.{Act}
use Rattle.runs.specs.declared.request.Ran.{Ran}
use Rattle.runs.specs.declared.request.Request.{Request}
use Rattle.runs.specs.declared.request.Request.TheVariants.{Goal, Script}
use Rattle.runs.specs.declared.request.RunRefusal.{RunRefusal}
use Rattle.runs.specs.declared.request.RunRefusal.TheVariants.{Plan}
use Rattle.runs.specs.Refusals.{script_refusal}
use Rattle.runs.specs.Promise.{actions_of, answers_of}

-- of a goal: what planning refuses, else what the check refuses of the lines planned, which then stand in the list
abbrev pub planned_refusal : Situation → Result ℕ PlanRefusal → List ℕ → Option RunRefusal
planned_refusal s (Ok n) xs = script_refusal (lines_checked s (take n xs))
planned_refusal s (Err e) xs = Some (Plan e)

-- of a request, as the calls refuse it one after the other
abbrev pub request_refusal : Situation → Request → List ℕ → Option RunRefusal
request_refusal s (Goal bs) xs = planned_refusal s (plan_answer (planned s.universe bs.now) (length xs)) (list_after (planned s.universe bs.now) xs)
request_refusal s (Script ys) xs = script_refusal (lines_checked s ys.now)

-- of a goal, so many lines were planned
abbrev pub IsPlanned : Universe → Request → ℕ → ℕ → Type 0
IsPlanned u (Goal bs) room n = plan_answer (planned u bs.now) room ≡ Ok n
IsPlanned u (Script xs) room n = Unit {0}

-- s and v tell what a host means, and `does` just what it does
module _ {H : Type 0} (s : H → Situation) (v : H → Service) (does : Order → H → H → Answer → Type 0) where
  -- the actions were taken as steps over the lines: they stay, and the answers stand in their places
  pub record Acted (xs : List ℕ) (a b : Running H) (before after : List Act) : Type 0 where
    pub told : List (Result (Unit {0}) StepFault)
    pub steps : TakesAll s v does xs a told b
    pub actions : actions_of after ≡ actions_of before
    pub answers : answers_of after ≡ map Some told

  -- the lines were run so from the host h to the host k, and this is answered
  pub record RanOver (xs : List ℕ) (h k : H) (before after : List Act) (r : Ran) : Type 0 where
    pub last : Running H
    pub acted : Acted xs (beginning h) last before after
    pub host : last.host ≡ k
    pub lines : r.lines ≡ length xs
    pub place : r.place ≡ last.place
    pub leases : r.leases ≡ last.made - last.ended
