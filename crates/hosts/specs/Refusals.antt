-- The numbers of the refusals of an order.
use Rattle.std.specs.Prelude.{ℕ, List, ◌++◌, codes, decimal}
use Rattle.hosts.specs.declared.refusal.Offence.{Offence}
use Rattle.hosts.specs.declared.refusal.Offence.TheVariants.{OutOfRange, Standing, NotStanding, Unfit, Bound, Unbound, NoSuccessor, Provider}
use Rattle.hosts.specs.declared.refusal.Reason.{Reason}
use Rattle.hosts.specs.declared.refusal.Reason.TheVariants.{Busy, Illegal, Gap, Full}
use Rattle.hosts.specs.declared.refusal.Refusal.{Refusal}

abbrev pub offence_number : Offence → ℕ
offence_number OutOfRange = 22
offence_number Standing = 23
offence_number NotStanding = 24
offence_number Unfit = 25
offence_number Bound = 26
offence_number Unbound = 27
offence_number NoSuccessor = 28
offence_number Provider = 29

abbrev pub reason_number : Reason → ℕ
reason_number Busy = 21
reason_number (Illegal e) = offence_number e
reason_number Gap = 30
reason_number Full = 31

-- the text of a refusal: the number of its reason, and the height
abbrev pub refusal_text : Refusal → List ℕ
refusal_text r = decimal (reason_number r.reason) ++ (codes " by " ++ decimal r.height)
