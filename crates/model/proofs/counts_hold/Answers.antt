use Rattle.model.proofs.Counting.{count_law}
use Rattle.model.proofs.counts_hold.Goals as goal

pub returns : goal.returns
returns c = count_law
