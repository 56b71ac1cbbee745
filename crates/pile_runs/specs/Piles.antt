-- Runs of a script on a pile of layers over a cloud, computed from what the pile does.
use Rattle.std.specs.Prelude.{ℕ, zero, suc, ◌+◌, cond, ◌&&◌, List, [], ◌∷◌, Some, None, Option}
use Rattle.model.specs.declared.order.Order.{Order}
use Rattle.hosts.specs.Answers.{is_bind, is_done}
use Rattle.cloud.specs.Cloud.{CloudState}
use Rattle.execution.specs.Steps.{Progress, Step, ended_between}
use Rattle.executor.specs.Steps.{Running, progress_of}
use Rattle.piles.specs.Piles.{Outcome, Pile}

-- how far a run on a pile has come, in the words of runs, by what the pile means
abbrev pub pile_progress : Pile → Running CloudState → Progress
pile_progress p a = progress_of (λ k. (p.means k).situation) (λ k. (p.means k).service) a

-- after the pile's answer to an order
abbrev pub after_outcome : Pile → Order → Running CloudState → Outcome → Running CloudState
after_outcome p o a out = record {
  host = out.after;
  place = a.place + cond (is_done out.answer) 1 0;
  made = a.made + cond (is_done out.answer && is_bind o) 1 0;
  ended = a.ended + ended_between (p.means a.host).situation.config (p.means out.after).situation.config;
}

-- after a step: the line at the place is ordered, if one is left
abbrev pub next_progress : Pile → Option Order → Running CloudState → Running CloudState
next_progress p (Some o) a = after_outcome p o a (p.does o a.host)
next_progress p None a = a

-- the step from there
abbrev pub pile_step : Pile → Option Order → Running CloudState → Step
pile_step p (Some o) a = record { answer = Some (p.does o a.host).answer; progress = pile_progress p (next_progress p (Some o) a) }
pile_step p None a = record { answer = None; progress = pile_progress p a }

-- so many steps, where these orders are at the places
unfoldable pub pile_steps : Pile → (ℕ → Option Order) → Running CloudState → ℕ → List Step
pile_steps p orders a zero = []
pile_steps p orders a (suc n) = pile_step p (orders a.place) a ∷ pile_steps p orders (next_progress p (orders a.place) a) n
