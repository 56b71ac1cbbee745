use Rattle.closing.proofs.Tracking.{lists_none}
use Rattle.closing.proofs.listing.Listing.empty.Goals as goal

pub returns : goal.returns
returns c = λ t. lists_none t _
