-- What is printed of a request.
use Rattle.std.specs.Prelude.{◌≡◌, ℕ, Bool, List, ◌++◌, Some, None, Option, Result, codes, length}
use Rattle.model.specs.declared.order.Order.{Order}
use Rattle.hosts.specs.Survey.{Situation}
use Rattle.hosts.specs.Service.{Service}
use Rattle.hosts.specs.Answers.{Answer, meaning}
use Rattle.planner.specs.Goals.{goal_of}
use Rattle.executor.specs.declared.fault.StepFault.{StepFault}
use Rattle.executor.specs.Steps.{order_at}
use Rattle.runs.specs.declared.request.Act.{Act}
use Rattle.runs.specs.declared.request.Ran.{Ran}
use Rattle.runs.specs.declared.request.Request.{Request}
use Rattle.runs.specs.declared.request.Request.TheVariants.{Goal, Script}
use Rattle.runs.specs.declared.request.RunRefusal.{RunRefusal}
use Rattle.runs.specs.Goals.{met}
use Rattle.runs.specs.Promise.{Promised, answers_of}
use Rattle.runs.specs.Refusals.{lines_run, run_refusal, run_refusal_text}
use Rattle.runs.specs.Taken.{RanOver}
use Rattle.run_text.specs.Texts.{answers_text, survey_line}

-- of a goal, whether it is met by what stands
abbrev pub met_of : Request → Situation → Option Bool
met_of (Goal bs) s = Some (met s.config (goal_of bs.now))
met_of (Script xs) s = None

-- the lines of a run, where these orders are at the places: those of its answers, and the last line
abbrev pub run_text : (ℕ → Option Order) → List (Option (Result (Unit {0}) StepFault)) → Request → Situation → Ran → List ℕ
run_text orders answers request s r = answers_text orders 0 answers ++ survey_line s r (met_of request s)

-- the line of a refused request
abbrev pub refused_text : RunRefusal → List ℕ
refused_text e = codes "refused " ++ (run_refusal_text e ++ codes "\n")

-- the request is refused, and the text is the line of its refusal; s is what the host's survey tells, and the list has so
-- many places
abbrev pub RefusedWith : Situation → Request → ℕ → List ℕ → Type 0
RefusedWith s request room text = (e : RunRefusal) × (run_refusal s request room ≡ Some e) × (text ≡ refused_text e)

-- s and v tell what a host means, and `does` just what it does
module _ {H : Type 0} (s : H → Situation) (v : H → Service) (does : Order → H → H → Answer → Type 0) where
  -- the request is not refused: it was run from the host h to the host k, the list became `left` and the actions `after`, and
  -- the text is what this prints
  pub record Reported (request : Request) (h k : H) (list left : List ℕ) (before after : List Act) (text : List ℕ) : Type 0 where
    pub allowed : run_refusal (s h) request (length list) ≡ None
    pub ran : Ran
    pub over : RanOver s v does (lines_run request left ran.lines) h k before after ran
    pub promise : Promised request (meaning (s h) (v h)) (meaning (s k) (v k)) left before after ran
    pub told : text ≡ run_text (order_at (lines_run request left ran.lines)) (answers_of after) request (s k) ran
