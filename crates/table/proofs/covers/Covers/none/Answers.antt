use Rattle.table.proofs.Covered.{zeros}
use Rattle.table.proofs.covers.Covers.none.Goals as goal

pub returns : goal.returns
returns c = zeros
