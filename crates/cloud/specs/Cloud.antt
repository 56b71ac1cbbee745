-- The simulated cloud: what it means, and what it does with an order.
use Rattle.std.specs.Prelude.{◌≡◌, ℕ, ◌-◌, false, cond, Some, None, Ok, Err, Option, nat_lt}
use Rattle.model.specs.declared.order.Order.{Order}
use Rattle.hosts.specs.declared.refusal.Reason.{Reason}
use Rattle.hosts.specs.declared.refusal.Reason.TheVariants.{Busy}
use Rattle.hosts.specs.Survey.{Situation}
use Rattle.hosts.specs.Service.{Service}
use Rattle.hosts.specs.Offences.{refused_if}
use Rattle.hosts.specs.Answers.{Answer, Meaning, meaning}
use Rattle.cloud.specs.declared.state.Cloud.{Cloud}
use Rattle.table.specs.Table.{Held, applied, held_of, load_of, situation_of, table_rule}

-- what stands and how much may, how many orders are put off, and how many after each that is not
pub record CloudState : Type 0 where
  pub held : Held
  pub waits : ℕ
  pub delay : ℕ

abbrev pub cloud_of : Cloud → CloudState
cloud_of s = record { held = held_of s.table; waits = s.waits; delay = s.delay }

-- the longest wait is the delay; not watchful, and at the bottom
abbrev pub service_of : CloudState → Service
service_of k = record {
  load = load_of k.waits k.held;
  profile = record { longest = k.delay; watchful = false; height = 0 };
}

abbrev pub meaning_of : CloudState → Meaning
meaning_of k = meaning k.held.situation (service_of k)

-- the rule that refuses the order: busy while waits are above 0, else that of the table
abbrev pub cloud_rule : Order → CloudState → Option Reason
cloud_rule o k = refused_if (nat_lt 0 k.waits) Busy (table_rule o k.held)

-- the rule as an answer, from height 0
abbrev pub cloud_answer : Option Reason → Answer
cloud_answer None = Ok tt
cloud_answer (Some e) = Err (record { reason = e; height = 0 })

-- an order that is put off lowers waits by one; after any other waits are the delay
abbrev pub cloud_after : Order → CloudState → CloudState
cloud_after o k =
    cond (nat_lt 0 k.waits)
    (record { held = k.held; waits = k.waits - 1; delay = k.delay })
    (record { held = applied o (table_rule o k.held) k.held; waits = k.delay; delay = k.delay })

-- what the cloud does with an order: its answer, and the state that it leads to
pub record Takes (o : Order) (k k' : CloudState) (r : Answer) : Type 0 where
  pub answer : r ≡ cloud_answer (cloud_rule o k)
  pub after : k' ≡ cloud_after o k

-- what the cloud means
abbrev pub cloud_situation : Cloud → Situation
cloud_situation s = situation_of s.table

abbrev pub cloud_service : Cloud → Service
cloud_service s = service_of (cloud_of s)

-- just what the cloud does with an order
abbrev pub CloudTakes : Order → Cloud → Cloud → Answer → Type 0
CloudTakes o h k r = Takes o (cloud_of h) (cloud_of k) r
