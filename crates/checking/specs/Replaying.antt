-- The table to which lines are replayed.
use Rattle.std.specs.Prelude.{◌≡◌, ℕ, Ok, Err, Result}
use Rattle.hosts.specs.declared.refusal.Reason.{Reason}
use Rattle.hosts.specs.declared.refusal.Reason.TheVariants.{Busy, Gap, Full, Illegal as Illegally}
use Rattle.model.specs.Config.{Config, empty}
use Rattle.model.specs.Universe.{Universe}
use Rattle.checking.specs.Judging.{situation}
use Rattle.checking.specs.declared.refusal.CheckRefusal.{CheckRefusal}
use Rattle.checking.specs.declared.refusal.CheckRefusal.TheVariants.{AtLine}
use Rattle.checking.specs.declared.refusal.LineFault.{LineFault}
use Rattle.checking.specs.declared.refusal.LineFault.TheVariants.{Illegal, TooManyBindings}
use Rattle.table.specs.declared.limits.Limits.{Limits}
use Rattle.table.specs.Table.{Held}

-- as much as a table can hold
abbrev pub largest : Limits
largest = record { instances = 256; bindings = 2048 }

-- where the replay begins: nothing stands
abbrev pub fresh : Universe → Held
fresh u = record { situation = situation u empty; limits = largest }

-- universe and limits stay
abbrev pub Kept : Held → Held → Type 0
Kept h k = (k.situation.universe ≡ h.situation.universe) × (k.limits ≡ h.limits)

-- the fault of an order that the largest table refuses, which it does only for an offence, or a bind as full
abbrev pub fault_of_reason : Reason → LineFault
fault_of_reason (Illegally e) = Illegal e
fault_of_reason Full = TooManyBindings
fault_of_reason Gap = TooManyBindings
fault_of_reason Busy = TooManyBindings

-- what is judged, without what stands
abbrev pub answer_of : Result Config LineFault → Result (Unit {0}) LineFault
answer_of (Ok d) = Ok tt
answer_of (Err e) = Err e

-- the same, where a bad line is told with its place
abbrev pub answer_at : ℕ → Result Config LineFault → Result (Unit {0}) CheckRefusal
answer_at place (Ok d) = Ok tt
answer_at place (Err e) = Err (AtLine place e)
