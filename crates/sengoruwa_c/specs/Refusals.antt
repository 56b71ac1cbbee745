-- What the calls answer, and the numbers that tell of it.
use Rattle.std.specs.Prelude.{◌≡◌, ℕ, List, Ok, Err, Result}
use Rattle.model.specs.Config.{empty}
use Rattle.universe.specs.declared.refusal.UniverseRefusal.{UniverseRefusal}
use Rattle.universe.specs.declared.tables.Tables.{Tables}
use Rattle.universe.specs.Reading.{Read}
use Rattle.universe.specs.Refusals.{universe_number}
use Rattle.universe.specs.Tables.{universe_of}
use Rattle.hosts.specs.Refusals.{offence_number}
use Rattle.planner.specs.declared.refusal.PlanRefusal.{PlanRefusal}
use Rattle.planner.specs.Planning.{plan_answer, planned}
use Rattle.planner.specs.Refusals.{plan_number}
use Rattle.checking.specs.declared.refusal.CheckRefusal.{CheckRefusal}
use Rattle.checking.specs.declared.refusal.CheckRefusal.TheVariants.{Length, NotEmpty, AtLine}
use Rattle.checking.specs.declared.refusal.LineFault.{LineFault}
use Rattle.checking.specs.declared.refusal.LineFault.TheVariants.{NotALine, Illegal, Gap, TooManyBindings}
use Rattle.checking.specs.Checking.{lines_checked}
use Rattle.checking.specs.Judging.{judged, situation}
use Rattle.checking.specs.Refusals.{check_number}
use Rattle.sengoruwa_c.specs.declared.records.Fault.{Fault}
use Rattle.sengoruwa_c.specs.declared.refusal.Refused.{Refused}
use Rattle.sengoruwa_c.specs.declared.refusal.Refused.TheVariants.{Universe, Plan, Check}

-- the number of a refusal: that of the file, the goal or the draft
abbrev pub refused_number : Refused → ℕ
refused_number (Universe e) = universe_number e
refused_number (Plan e) = plan_number e
refused_number (Check e) = check_number e

-- the number of an answer: 0, or that of its refusal
abbrev pub number_told : {X : Type 0} → Result X Refused → ℕ
number_told (Ok x) = 0
number_told (Err e) = refused_number e

-- why an order is not legal; 0 for the other faults of a line
abbrev pub offence_told : LineFault → ℕ
offence_told NotALine = 0
offence_told (Illegal e) = offence_number e
offence_told Gap = 0
offence_told TooManyBindings = 0

-- no line is bad
abbrev pub no_fault : Fault
no_fault = record { place = 0; offence = 0 }

-- the bad line of a refused draft, if it is refused for one
abbrev pub check_fault : CheckRefusal → Fault
check_fault Length = no_fault
check_fault NotEmpty = no_fault
check_fault (AtLine place fault) = record { place = place; offence = offence_told fault }

-- only the refusal of a draft tells of a line
abbrev pub refused_fault : Refused → Fault
refused_fault (Universe e) = no_fault
refused_fault (Plan e) = no_fault
refused_fault (Check e) = check_fault e

-- the bad line that an answer tells of
abbrev pub fault_told : {X : Type 0} → Result X Refused → Fault
fault_told (Ok x) = no_fault
fault_told (Err e) = refused_fault e

-- what was done, without what it gave
abbrev pub done_of : {X E : Type 0} → Result X E → Result (Unit {0}) E
done_of (Ok x) = Ok tt
done_of (Err e) = Err e

-- a refusal of the file, of the goal or of the draft as that of a call
abbrev pub by_file : {X : Type 0} → Result X UniverseRefusal → Result X Refused
by_file (Ok x) = Ok x
by_file (Err e) = Err (Universe e)

abbrev pub by_goal : {X : Type 0} → Result X PlanRefusal → Result X Refused
by_goal (Ok x) = Ok x
by_goal (Err e) = Err (Plan e)

abbrev pub by_draft : {X : Type 0} → Result X CheckRefusal → Result X Refused
by_draft (Ok x) = Ok x
by_draft (Err e) = Err (Check e)

-- what follows with the tables that were read; a refusal of the file comes first
abbrev pub and_then : {X Y : Type 0} → Result X Refused → (X → Result Y Refused) → Result Y Refused
and_then (Ok x) f = f x
and_then (Err e) f = Err e

-- reading alone
abbrev pub read_in : Read Tables → Result (Unit {0}) Refused
read_in r = done_of (by_file r)

-- the goal is planned in the universe that was read, with a list of so many places
abbrev pub planned_in : Read Tables → List ℕ → ℕ → Result ℕ Refused
planned_in r goal room = and_then (by_file r) (λ t. by_goal (plan_answer (planned (universe_of t) goal) room))

-- the draft is judged in the universe that was read
abbrev pub judged_in : Read Tables → List ℕ → Result (Unit {0}) Refused
judged_in r xs = and_then (by_file r) (λ t. by_draft (judged (universe_of t) xs))

-- the draft is checked against a fresh host of the universe that was read
abbrev pub ran_in : Read Tables → List ℕ → Result (Unit {0}) Refused
ran_in r xs = and_then (by_file r) (λ t. by_draft (lines_checked (situation (universe_of t) empty) xs))

-- a run is refused just as the check refuses the draft
abbrev pub RefusedAsChecked : Read Tables → List ℕ → Type 0
RefusedAsChecked r xs = ran_in r xs ≡ judged_in r xs
