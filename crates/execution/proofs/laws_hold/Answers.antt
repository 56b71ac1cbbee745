use Rattle.execution.proofs.Laws.{ends_law, steps_law}
use Rattle.execution.proofs.laws_hold.Goals as goal

pub returns : goal.returns
returns c = record { steps = steps_law; ends = ends_law }
