use Rattle.std.proofs.Common.{refl}
use Rattle.model.proofs.Searches.{any_none}
use Rattle.table.proofs.Performed.{alike, new_fit}
use Rattle.table.proofs.Slots.{all_vacant}
use Rattle.table.proofs.records.Records.empty.Goals as goal

pub invariant_of-result-2 : goal.invariant_of-result-2
invariant_of-result-2 c = record { fit = new_fit _ refl }

pub returns-clause-config : goal.returns-clause-config
returns-clause-config c = alike _ _ all_vacant (λ p x y. any_none _)
