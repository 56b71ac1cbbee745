use Rattle.passing.proofs.Planned.{planned_checked_law, planned_passes_law}
use Rattle.passing.proofs.Starting.{start_law}
use Rattle.passing.proofs.laws_hold.Goals as goal

pub returns : goal.returns
returns c = record { planned = planned_passes_law; checked = planned_checked_law; start = start_law }
