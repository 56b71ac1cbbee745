use Rattle.std.proofs.Common.{refl, rules}
use Rattle.model.proofs.Ranges.{first_over}
use Rattle.plans.specs.Closing.{next_pair}
use Rattle.closing.proofs.listing.Listing.next_pair.Goals as goal

pub returns : goal.returns
unfolding next_pair
returns c = first_over _ _ _ _ _ refl c.types.ensures c.find_map.ensures.runs (λ x a q k. search rules)
