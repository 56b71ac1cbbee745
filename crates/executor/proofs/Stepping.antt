-- A step is one of the run. Assumes nothing.
use Rattle.std.proofs.Common.{◌≡◌, ◌+◌, ◌-◌, ◌&&◌, cond, min, Ok, Err, Some, None, Option, Result, refl, sym, ap, ◌∙◌, arith}
use Rattle.std.specs.Option.{ok_or}
use Rattle.model.specs.declared.order.Order.{Order}
use Rattle.hosts.specs.Survey.{Lawful, Situation, bindings_of}
use Rattle.hosts.specs.Service.{Service}
use Rattle.hosts.specs.Answers.{Answer, Answered, Gives, Meaning, is_bind, is_done, meaning}
use Rattle.hosts.proofs.Deciding.{done_law, refused_law}
use Rattle.checking.proofs.Stepping.{never}
use Rattle.execution.specs.Steps.{ended_between}
use Rattle.execution.proofs.Ending.{ended_law, ended_same}
use Rattle.executor.specs.declared.fault.StepFault.{StepFault}
use Rattle.executor.specs.declared.stages.RunningPlan.{RunningPlan}
use Rattle.executor.specs.declared.stages.Ticket.{Ticket}
use Rattle.executor.specs.Steps.{Takes, answer_at, most, running, ticket_after}

-- the bindings that a host's answer ended are those by which more stood before, with the one that was made, than stand
-- after it
ended_by : (o : Order) (m n : Meaning) (r : Answer) → Lawful m.situation → Answered o m n r →
    ended_between m.situation.config n.situation.config ≡
    bindings_of m.situation + cond (is_done r && is_bind o) 1 0 - bindings_of n.situation
ended_by o m n (Ok x) law h =
    let d = done_law o m n (Ok x) h refl in
    let count = ended_law m.situation o law d.1 in
    rw d.2 (omega (arith, count))
ended_by o m n (Err e) law h =
    let stays = refused_law o m n (Err e) e.reason h refl in
    rw stays (ended_same m.situation.config ∙ omega arith)

module _ {H : Type 0} (s : H → Situation) (v : H → Service) (does : Order → H → H → Answer → Type 0) (h k : H) (law : Lawful (s h)) where
  -- the order of the line was given, and is counted
  pub takes_line : (p q : RunningPlan) (t u : Ticket) (o : Order) (a : Answer) (line : Option Order) (r : Result (Unit {0}) StepFault) →
      line ≡ Some o → Gives s v o h k a → does o h k a → q.place ≡ p.place + cond (is_done a) 1 0 →
      u ≡ ticket_after t o a (s h) (s k) → r ≡ answer_at p.place o a →
      Takes s v does line (running h p t) r (running k q u)
  takes_line p q t u o a line r is given exact moved count told =
      rw is (record {
        answer = a;
        exact = exact;
        next = record {
          host = meaning (s k) (v k);
          place = q.place;
          made = t.made + cond (is_done a && is_bind o) 1 0;
          ended = t.ended + ended_between (s h).config (s k).config;
        };
        ordered = record { host = given; place = moved; made = refl; ended = refl };
        after = λ i. record {
          host = meaning (s k) (v k);
          place = q.place;
          made = ap (λ (w : Ticket). w.made) count i;
          ended = (ap (λ (w : Ticket). w.ended) count ∙ ap (λ n. min (t.ended + n) most) (sym (ended_by o (meaning (s h) (v h)) (meaning (s k) (v k)) a law given))) i;
        };
        told = told;
      })

-- a value that stands in for nothing was there
pub some_of : {X E : Type 0} (x : Option X) (e : E) (y : X) → ok_or x e ≡ Ok y → x ≡ Some y
some_of (Some x) e y is = cc
some_of None e y is = never cc
