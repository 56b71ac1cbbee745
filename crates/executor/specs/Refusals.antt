-- The numbers of the refusals of start and step.
use Rattle.std.specs.Prelude.{ℕ}
use Rattle.hosts.specs.Refusals.{reason_number}
use Rattle.executor.specs.declared.fault.StartRefusal.{StartRefusal}
use Rattle.executor.specs.declared.fault.StartRefusal.TheVariants.{NotEmpty}
use Rattle.executor.specs.declared.fault.StepFault.{StepFault}
use Rattle.executor.specs.declared.fault.StepFault.TheVariants.{NoLine, Refused}

-- the number of a plan that is not started
abbrev pub start_number : StartRefusal → ℕ
start_number NotEmpty = 51

-- the number of a step that is not done: of a refusal, that of the host
abbrev pub fault_number : StepFault → ℕ
fault_number NoLine = 52
fault_number (Refused place o e) = reason_number e.reason
