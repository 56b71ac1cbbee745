-- What is printed of a request that is run on a fresh pile, computed from what the pile does.
use Rattle.std.specs.Prelude.{ℕ, ◌≡◌, zero, suc, ◌+◌, ◌-◌, ◌*◌, ◌^◌, ◌<◌, min, List, length, map, Some, None, Ok, Err, Option, Result, slice_get}
use Rattle.model.specs.declared.order.Order.{Order}
use Rattle.model.specs.Universe.{Universe}
use Rattle.universe.specs.declared.tables.Tables.{Tables}
use Rattle.universe.specs.Reading.{Read}
use Rattle.universe.specs.Refusals.{universe_number}
use Rattle.universe.specs.Tables.{universe_of}
use Rattle.console.specs.Refused.{refused_line_of}
use Rattle.hosts.specs.Survey.{Situation}
use Rattle.hosts.specs.Service.{Service}
use Rattle.hosts.specs.Answers.{Answer}
use Rattle.planner.specs.declared.refusal.PlanRefusal.{PlanRefusal}
use Rattle.planner.specs.Planning.{planned}
use Rattle.cloud.specs.Cloud.{CloudState}
use Rattle.executor.specs.Steps.{Running, beginning, order_at}
use Rattle.runs.specs.declared.request.Act.{Act}
use Rattle.runs.specs.declared.request.Ran.{Ran}
use Rattle.runs.specs.declared.request.Request.{Request}
use Rattle.runs.specs.declared.request.Request.TheVariants.{Goal, Script}
use Rattle.runs.specs.declared.request.RunRefusal.{RunRefusal}
use Rattle.runs.specs.Promise.{step_answers}
use Rattle.runs.specs.Refusals.{run_refusal}
use Rattle.run_text.specs.Reports.{Reported, refused_text, run_text}
use Rattle.options.specs.declared.HostOptions.{HostOptions}
use Rattle.piles.specs.Piles.{Pile, fresh, fresh_cloud_of, pile_of}
use Rattle.pile_runs.specs.Piles.{next_progress, pile_progress, pile_steps}

-- the order at a place of a planned script
abbrev pub planned_at : Result (List Order) PlanRefusal → ℕ → Option Order
planned_at (Ok os) i = slice_get os i
planned_at (Err e) i = None

-- how many lines it has
abbrev pub planned_count : Result (List Order) PlanRefusal → ℕ
planned_count (Ok os) = length os
planned_count (Err e) = 0

-- the order at a place of the request's script: of a goal, of the one planned
abbrev pub request_order : Universe → Request → ℕ → Option Order
request_order u (Goal bs) = planned_at (planned u bs.now)
request_order u (Script xs) = order_at xs.now

-- how many lines the request has
abbrev pub line_count : Universe → Request → ℕ
line_count u (Goal bs) = planned_count (planned u bs.now)
line_count u (Script xs) = length xs.now

-- where so many steps lead
unfoldable pub pile_reached : Pile → (ℕ → Option Order) → Running CloudState → ℕ → Running CloudState
pile_reached p orders a zero = a
pile_reached p orders a (suc n) = pile_reached p orders (next_progress p (orders a.place) a) n

-- what a finished run answers
abbrev pub ran_at : ℕ → Running CloudState → Ran
ran_at lines a = record { lines = lines; place = a.place; leases = a.made - a.ended }

-- the lines of so many steps from there, where these orders are at the places and the request has so many lines, and the
-- last line
abbrev pub steps_text : Pile → (ℕ → Option Order) → Running CloudState → ℕ → Request → ℕ → List ℕ
steps_text p orders a n request lines =
    let last = pile_reached p orders a n in
    run_text orders (map Some (step_answers orders (pile_progress p a) (pile_steps p orders a n))) request (p.means last.host).situation (ran_at lines last)

-- no script is longer, so the list has so many places
abbrev pub most_lines : ℕ
most_lines = 11136

-- s and v tell what a host means, and `does` just what it does
module _ {H : Type 0} (s : H → Situation) (v : H → Service) (does : Order → H → H → Answer → Type 0) where
  -- the request was run over the host with a list of so many places, and n actions; the text is what this prints
  pub record StepsReported (request : Request) (h k : H) (n : ℕ) (text : List ℕ) : Type 0 where
    pub list : List ℕ
    pub left : List ℕ
    pub before : List Act
    pub after : List Act
    pub room : length list ≡ most_lines
    pub each : length before ≡ n
    pub short : n < 2 ^ 63
    pub reported : Reported s v does request h k list left before after text

-- the lines of a run that is not refused, or that of the refusal
abbrev pub unless_refused : Option RunRefusal → List ℕ → Result (List ℕ) (List ℕ)
unless_refused None text = Ok text
unless_refused (Some e) text = Err (refused_text e)

-- what is printed of the request on a fresh pile, with so many steps
abbrev pub pile_run_text : Universe → HostOptions → Request → ℕ → Result (List ℕ) (List ℕ)
pile_run_text u o request n =
    unless_refused (run_refusal (fresh u o).situation request most_lines)
    (steps_text (pile_of o.layers) (request_order u request) (beginning (fresh_cloud_of u o)) n request (line_count u request))

-- as many steps as bring every script to its end which the allowances cover: its lines × (longest wait + 1); more than
-- 32,768 lines are refused
abbrev pub usual_steps : ℕ → HostOptions → ℕ
usual_steps lines o = min lines 32768 * (min o.delay 8 + 1)

-- as many steps as are asked for, else the usual number
abbrev pub steps_for : Universe → HostOptions → Request → Option ℕ → ℕ
steps_for u o request (Some n) = n
steps_for u o request None = usual_steps (line_count u request) o

-- what is printed of a universe file: the run of the request on a fresh pile of the universe, or the refusal of the file
abbrev pub command_text : HostOptions → Request → Option ℕ → Read Tables → Result (List ℕ) (List ℕ)
command_text o request steps (Ok held) = pile_run_text (universe_of held) o request (steps_for (universe_of held) o request steps)
command_text o request steps (Err e) = Err (refused_line_of (universe_number e))
