use Rattle.std.proofs.Common.{refl, rules}
use Rattle.model.proofs.Ranges.{first_over}
use Rattle.closing.proofs.listing.Listing.next_among.Goals as goal

pub returns : goal.returns
returns c = first_over _ _ _ _ _ refl (rw c.from.ensures at c.states.ensures) c.find_map.ensures.runs (λ x a q k. search rules)
