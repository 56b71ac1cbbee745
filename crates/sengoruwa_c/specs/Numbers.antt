-- The numbers that tell of a universe, of what stands, and of a step.
use Rattle.std.specs.Prelude.{◌≡◌, ℕ, ◌<◌, ◌+◌, ◌-◌, ◌*◌, ◌/◌, ◌%◌, if◌then◌else◌, Some, None, Ok, Err, Option, Result, ◌==◌, nat_lt}
use Rattle.model.specs.declared.pair.Pair.{Pair}
use Rattle.model.specs.Universe.{Universe}
use Rattle.universe.specs.declared.tables.State.{State}
use Rattle.universe.specs.Packed.{entry_of}
use Rattle.universe.specs.Sets.{field}
use Rattle.hosts.specs.Refusals.{reason_number}
use Rattle.executor.specs.declared.fault.StepFault.{StepFault}
use Rattle.executor.specs.declared.fault.StepFault.TheVariants.{NoLine, Refused}

-- the set i of a state: provided, required, successors
abbrev pub set_of : State → ℕ → ℕ
set_of s i = if i == 0 then s.provided else (if i == 1 then s.required else s.successors)

-- the number at a place of the packed sets of the states: three for each of the eight states of each type, empty where there
-- is no such state
abbrev pub set_number : Universe → ℕ → ℕ
set_number u place = set_of (entry_of u (place / 24) (place / 3 % 8)) (place % 3)

-- the number at a place of what is told of a universe: its types, its ports, the states of each of 16 types, then the sets
abbrev pub entry_number : Universe → ℕ → ℕ
entry_number u place =
    if place == 0 then u.types
    else (if place == 1 then u.ports
    else (if nat_lt place 18 then u.states (place - 2)
    else set_number u (place - 18)))

-- so the sets of the state q of the type t stand from 18 + 3 × (8 × t + q) on, each packed with its first number as the
-- highest bit
abbrev pub PlacesLaw : Type 0
PlacesLaw =
    (u : Universe) (t q : ℕ) → q < 8 →
    let place = 18 + 3 * (8 * t + q) in
    (entry_number u place ≡ field 32 (u.provides t q)) ×
    (entry_number u (place + 1) ≡ field 32 (u.requires t q)) ×
    (entry_number u (place + 2) ≡ field 8 (u.next t q))

-- what stands under a number: 0 for nothing
abbrev pub standing_number : Option Pair → ℕ
standing_number None = 0
standing_number (Some h) = 1 + 8 * h.kind + h.state

-- what a step answers: 0 where it is done, 52 where no line is left, and of a host's refusal the height and the number
abbrev pub step_number : Result (Unit {0}) StepFault → ℕ
step_number (Ok x) = 0
step_number (Err NoLine) = 52
step_number (Err (Refused place o e)) = 256 * e.height + reason_number e.reason
