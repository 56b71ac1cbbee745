-- The numbers and texts of the refusals of a check.
use Rattle.std.specs.Prelude.{ℕ, List, ◌++◌, codes, decimal}
use Rattle.hosts.specs.Refusals.{offence_number}
use Rattle.checking.specs.declared.refusal.LineFault.{LineFault}
use Rattle.checking.specs.declared.refusal.LineFault.TheVariants.{NotALine, Illegal, Gap, TooManyBindings}
use Rattle.checking.specs.declared.refusal.CheckRefusal.{CheckRefusal}
use Rattle.checking.specs.declared.refusal.CheckRefusal.TheVariants.{Length, NotEmpty, AtLine}

-- the number of a bad line's fault
abbrev pub fault_number : LineFault → ℕ
fault_number NotALine = 43
fault_number (Illegal e) = 44
fault_number Gap = 45
fault_number TooManyBindings = 46

-- the number of a refusal
abbrev pub check_number : CheckRefusal → ℕ
check_number Length = 41
check_number NotEmpty = 42
check_number (AtLine place fault) = fault_number fault

-- what a bad line's fault carries besides its number and place: an order that is not legal tells why
abbrev pub cause_text : LineFault → List ℕ
cause_text NotALine = codes ""
cause_text (Illegal e) = codes ": " ++ decimal (offence_number e)
cause_text Gap = codes ""
cause_text TooManyBindings = codes ""

-- the text of a refusal: its number, and of a bad line the place and the cause
abbrev pub check_text : CheckRefusal → List ℕ
check_text Length = decimal 41
check_text NotEmpty = decimal 42
check_text (AtLine place fault) = decimal (fault_number fault) ++ (codes " at " ++ (decimal place ++ cause_text fault))
