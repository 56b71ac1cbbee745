-- What a step does.
use Rattle.std.specs.Prelude.{◌≡◌, ℕ, ◌+◌, ◌-◌, ◌^◌, cond, Bool, ◌&&◌, min, List, [], ◌∷◌, Some, None, Ok, Err, Option, Result, slice_get}
use Rattle.model.specs.declared.order.Order.{Order}
use Rattle.lines.specs.declared.refusal.LineRefusal.{LineRefusal}
use Rattle.lines.specs.Line.{decoded}
use Rattle.hosts.specs.Survey.{Situation, bindings_of}
use Rattle.hosts.specs.Service.{Service}
use Rattle.hosts.specs.Answers.{Answer, is_bind, is_done, meaning}
use Rattle.execution.specs.Steps.{Ordered, Progress}
use Rattle.executor.specs.declared.fault.StepFault.{StepFault}
use Rattle.executor.specs.declared.fault.StepFault.TheVariants.{NoLine, Refused}
use Rattle.executor.specs.declared.stages.RunningPlan.{RunningPlan}
use Rattle.executor.specs.declared.stages.Ticket.{Ticket}

-- the order that was decoded, if one was
abbrev pub order_told : Result Order LineRefusal → Option Order
order_told (Ok o) = Some o
order_told (Err e) = None

-- the order that a line tells, if there is a line
abbrev pub order_of_line : Option ℕ → Option Order
order_of_line (Some x) = order_told (decoded x)
order_of_line None = None

-- the order of the line at the place; none where no line is left. Each line of a checked plan tells an order
abbrev pub order_at : List ℕ → ℕ → Option Order
order_at xs place = order_of_line (slice_get xs place)

-- what a step answers to a host's answer: with a refusal come the place and the order
abbrev pub answer_at : ℕ → Order → Answer → Result (Unit {0}) StepFault
answer_at place o (Ok x) = Ok tt
answer_at place o (Err e) = Err (Refused place o e)

-- the largest number on a ticket
abbrev pub most : ℕ
most = 2 ^ 64 - 1

-- the ticket after an order that made a binding or none, where so many bindings stood before and stand after it
abbrev pub counted : Ticket → Bool → ℕ → ℕ → Ticket
counted t made before after = record {
  made = min (t.made + cond made 1 0) most;
  ended = min (t.ended + (before + cond made 1 0 - after)) most;
}

-- the same after a host's answer: a bind that is done makes a binding
abbrev pub ticket_after : Ticket → Order → Answer → Situation → Situation → Ticket
ticket_after t o r s n = counted t (is_done r && is_bind o) (bindings_of s) (bindings_of n)

-- how far a run has come as a ticket tells it: no number is larger than the largest
abbrev pub on_ticket : Progress → Progress
on_ticket a = record { host = a.host; place = a.place; made = min a.made most; ended = min a.ended most }

-- a run over the host: the host, the place in the script, and the numbers on the ticket
pub record Running (H : Type 0) : Type 0 where
  pub host : H
  pub place : ℕ
  pub made : ℕ
  pub ended : ℕ

-- at its beginning a run is at place 0, and has neither made nor ended a binding
abbrev pub beginning : {H : Type 0} → H → Running H
beginning h = record { host = h; place = 0; made = 0; ended = 0 }

-- how far a run has come, in the words of runs; s and v tell what a host means
abbrev pub progress_of : {H : Type 0} → (H → Situation) → (H → Service) → Running H → Progress
progress_of s v a = record { host = meaning (s a.host) (v a.host); place = a.place; made = a.made; ended = a.ended }

-- of a running plan, a ticket and a host
abbrev pub running : {H : Type 0} → H → RunningPlan → Ticket → Running H
running h p t = record { host = h; place = p.place; made = t.made; ended = t.ended }

-- s and v tell what a host means, and `does` just what it does
module _ {H : Type 0} (s : H → Situation) (v : H → Service) (does : Order → H → H → Answer → Type 0) where
  -- the host is given the order, and nothing else: it answers as the relation of hosts and its `does` say; the place and
  -- the numbers on the ticket are then those to which the answer leads; and the step answers what the host did
  pub record Given (o : Order) (a : Running H) (r : Result (Unit {0}) StepFault) (b : Running H) : Type 0 where
    pub answer : Answer
    pub exact : does o a.host b.host answer
    pub next : Progress
    pub ordered : Ordered o (progress_of s v a) answer next
    pub after : progress_of s v b ≡ on_ticket next
    pub told : r ≡ answer_at a.place o answer

  -- a step: the host is given the order of the line at the place; where no line is left, it is given none, nothing changes,
  -- and that is the answer
  abbrev pub Takes : Option Order → Running H → Result (Unit {0}) StepFault → Running H → Type 0
  Takes (Some o) a r b = Given o a r b
  Takes None a r b = (r ≡ Err NoLine) × (b ≡ a)

  -- steps over the lines, one after the other, with these answers
  unfoldable pub TakesAll : List ℕ → Running H → List (Result (Unit {0}) StepFault) → Running H → Type 0
  TakesAll xs a [] b = b ≡ a
  TakesAll xs a (r ∷ rs) b = (c : Running H) × Takes (order_at xs a.place) a r c × TakesAll xs c rs b
