use Rattle.sengoruwa_c.proofs.Telling.{places_law}
use Rattle.sengoruwa_c.proofs.sengoruwa_read.Goals as goal

pub returns-clause-places : goal.returns-clause-places
returns-clause-places c = places_law
