-- Worked cases of steps of the harbour's script on a cloud.
use Rattle.std.specs.Prelude.{◌≡◌, ℕ, ◌-◌, List, [], ◌∷◌, length, map, Some, Ok, Err, Result, slice_get}
use Rattle.model.specs.declared.order.Order.TheVariants.{Create}
use Rattle.model.specs.Config.{empty, pair}
use Rattle.lines.specs.Line.{decoded}
use Rattle.hosts.specs.declared.refusal.Reason.{Reason}
use Rattle.hosts.specs.declared.refusal.Reason.TheVariants.{Busy, Full}
use Rattle.checking.specs.Judging.{judged, situation}
use Rattle.cloud.specs.declared.state.Cloud.{Cloud}
use Rattle.cloud.specs.Cloud.{CloudState, CloudTakes, cloud_of, cloud_service, cloud_situation}
use Rattle.executor.specs.declared.fault.StepFault.{StepFault}
use Rattle.executor.specs.declared.fault.StepFault.TheVariants.{Refused}
use Rattle.executor.specs.Refusals.{fault_number}
use Rattle.executor.specs.Steps.{Running, TakesAll, beginning}
use Rattle.harbour.specs.Harbour.{harbour, serving_orders}

-- the lines of the orders for a dispatcher that serves
abbrev pub serving_lines : List ℕ
serving_lines =
    0x20000000 ∷ 0x60000002
    ∷ 0x20200010 ∷ 0x40002000 ∷ 0x60200002
    ∷ 0x20400020 ∷ 0x40004000 ∷ 0x60400002 ∷ 0x40204100 ∷ 0x60400004 ∷ 0x80004000
    ∷ []

-- an empty cloud of the harbour that has room for so many instances, and puts two orders off before each that it decides
abbrev pub slow : ℕ → CloudState
slow n = record {
  held = record { situation = situation harbour empty; limits = record { instances = n; bindings = 2048 } };
  waits = 2;
  delay = 2;
}

-- the fault of a step at place 5, where the dispatcher is to be created, that the cloud refuses for the reason
abbrev pub dispatcher_fault : Reason → StepFault
dispatcher_fault e = Refused 5 (Create 2 2) (record { reason = e; height = 0 })

-- from a run's start on the cloud c, steps over the lines answer what is told, and lead to b
abbrev pub Served : Cloud → List (Result (Unit {0}) StepFault) → Running Cloud → Type 0
Served c told b =
    TakesAll cloud_situation cloud_service CloudTakes serving_lines (beginning c) told b

pub record RunCases : Type 0 where
  -- the lines tell the orders, and are judged good
  pub orders : map decoded serving_lines ≡ map Ok serving_orders
  pub judged : judged harbour serving_lines ≡ Ok tt
  -- where each line is put off twice, 33 steps end behind the last line, with two leases, and the dispatcher serves
  pub ends : (c : Cloud) (told : List (Result (Unit {0}) StepFault)) (b : Running Cloud) → cloud_of c ≡ slow 256 →
      length told ≡ 33 → Served c told b →
      (b.place ≡ 11) × (b.made - b.ended ≡ 2) × ((cloud_situation b.host).config.inst 2 ≡ Some (pair 2 2))
  -- one step fewer, and the last line is still to come
  pub before : (c : Cloud) (told : List (Result (Unit {0}) StepFault)) (b : Running Cloud) → cloud_of c ≡ slow 256 →
      length told ≡ 32 → Served c told b → b.place ≡ 10
  -- where there is room for two instances, the dispatcher is put off twice, and then the step answers that the cloud is full
  pub full : (c : Cloud) (told : List (Result (Unit {0}) StepFault)) (b : Running Cloud) → cloud_of c ≡ slow 2 →
      length told ≡ 18 → Served c told b →
      (slice_get told 15 ≡ Some (Err (dispatcher_fault Busy))) ×
      (slice_get told 16 ≡ Some (Err (dispatcher_fault Busy))) ×
      (slice_get told 17 ≡ Some (Err (dispatcher_fault Full)))
  -- whose number is 31
  pub number : fault_number (dispatcher_fault Full) ≡ 31
