use Rattle.std.proofs.Common.{rules}
use Rattle.checking.proofs.Emptied.{tells_empty}
use Rattle.checking.proofs.check.is_empty.Goals as goal

pub returns-then-instances-eq0-clause-law : goal.returns-then-instances-eq0-clause-law
returns-then-instances-eq0-clause-law g c = tells_empty _ (g.S.Survey.lawful _) _ (search rules)

pub returns-else-instances-eq0-clause-law : goal.returns-else-instances-eq0-clause-law
returns-else-instances-eq0-clause-law g c = tells_empty _ (g.S.Survey.lawful _) _ (search rules)
