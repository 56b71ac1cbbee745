-- Which requests are refused, and what the caller's list then holds.
use Rattle.std.specs.Prelude.{◌≡◌, ◌≢◌, ◌↔◌, ℕ, ◌≤◌, cond, List, length, take, Some, None, Ok, Err, IsOk, Option, Result, decimal}
use Rattle.model.specs.declared.order.Order.{Order}
use Rattle.model.specs.Universe.{Universe}
use Rattle.model.specs.Config.{empty}
use Rattle.hosts.specs.Survey.{Situation}
use Rattle.planner.specs.declared.refusal.PlanRefusal.{PlanRefusal}
use Rattle.planner.specs.declared.refusal.PlanRefusal.TheVariants.{OutOfReach}
use Rattle.planner.specs.Goals.{goal_of}
use Rattle.planner.specs.Planning.{IsGoal, Unreached, list_after, plan_answer, planned}
use Rattle.checking.specs.declared.refusal.CheckRefusal.{CheckRefusal}
use Rattle.checking.specs.declared.refusal.CheckRefusal.TheVariants.{NotEmpty}
use Rattle.checking.specs.Checking.{is_empty, lines_checked}
use Rattle.checking.specs.Passing.{Passes}
use Rattle.planner.specs.Refusals.{plan_number}
use Rattle.checking.specs.Refusals.{check_number, check_text}
use Rattle.executor.specs.Refusals.{start_number}
use Rattle.runs.specs.declared.request.Request.{Request}
use Rattle.runs.specs.declared.request.Request.TheVariants.{Goal, Script}
use Rattle.runs.specs.declared.request.RunRefusal.{RunRefusal}
use Rattle.runs.specs.declared.request.RunRefusal.TheVariants.{Plan, Check, Start}

-- the number of a refusal
abbrev pub run_number : RunRefusal → ℕ
run_number (Plan e) = plan_number e
run_number (Check e) = check_number e
run_number (Start e) = start_number e

-- its text: as planning, check or start show it
abbrev pub run_refusal_text : RunRefusal → List ℕ
run_refusal_text (Plan e) = decimal (plan_number e)
run_refusal_text (Check e) = check_text e
run_refusal_text (Start e) = decimal (start_number e)

-- the refusal of an answer, if it is one
abbrev pub refusal_of : {X : Type 0} → Result X RunRefusal → Option RunRefusal
refusal_of (Ok x) = None
refusal_of (Err e) = Some e

-- of a goal: what planning refuses, else only that something stands in the host, since what was planned passes
abbrev pub goal_refusal : Situation → Result ℕ PlanRefusal → Option RunRefusal
goal_refusal s (Ok n) = cond (is_empty s) None (Some (Check NotEmpty))
goal_refusal s (Err e) = Some (Plan e)

-- of a script: what the check refuses; start refuses nothing behind it
abbrev pub script_refusal : Result (Unit {0}) CheckRefusal → Option RunRefusal
script_refusal (Ok x) = None
script_refusal (Err e) = Some (Check e)

-- of a request, where s is what the host's survey tells and the list has so many places
abbrev pub run_refusal : Situation → Request → ℕ → Option RunRefusal
run_refusal s (Goal bs) room = goal_refusal s (plan_answer (planned s.universe bs.now) room)
run_refusal s (Script xs) room = script_refusal (lines_checked s xs.now)

-- the list afterwards, where it held xs: of a goal, as planning leaves it
abbrev pub list_left : Universe → Request → List ℕ → List ℕ
list_left u (Goal bs) xs = list_after (planned u bs.now) xs
list_left u (Script _) xs = xs

-- the lines that are run, as many as n, where the list is xs afterwards: of a goal, those that planning wrote into it
abbrev pub lines_run : Request → List ℕ → ℕ → List ℕ
lines_run (Goal bs) xs n = take n xs
lines_run (Script ys) xs n = ys.now

-- a goal is refused as out of reach exactly if it is a goal that no run reaches; a script never is
abbrev pub OutOfReachUnless : Universe → Request → Option RunRefusal → Type 0
OutOfReachUnless u (Goal bs) r = (r ≡ Some (Plan OutOfReach)) ↔ (IsGoal u bs.now × Unreached u (goal_of bs.now))
OutOfReachUnless u (Script xs) r = r ≢ Some (Plan OutOfReach)

-- a goal is run exactly if nothing stands in the host, the goal has a script, and the list has room for it; a script is run
-- exactly if nothing stands in the host and its lines pass
abbrev pub RunUnless : {X : Type 0} → Situation → Request → ℕ → Result X RunRefusal → Type 0
RunUnless s (Goal bs) room r = IsOk r ↔ ((s.config ≡ empty) × ((os : List Order) × (planned s.universe bs.now ≡ Ok os) × (length os ≤ room)))
RunUnless s (Script xs) room r = IsOk r ↔ ((s.config ≡ empty) × Passes s.universe xs.now)
