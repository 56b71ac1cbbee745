use Rattle.text.proofs.Law.{written_law}
use Rattle.text.proofs.law_holds.Goals as goal

pub returns : goal.returns
returns c = record { law = written_law }
