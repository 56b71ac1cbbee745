use Rattle.std.proofs.Common.{◌-◌}
use Rattle.closing.proofs.Rounds.{Round}
use Rattle.closing.proofs.listing.Listing.whole.Given as goal

abbrev pub invariant-loop-pair : goal.invariant-loop-pair
invariant-loop-pair l = Round l.universe l.listing

abbrev pub decreases-loop-pair : goal.decreases-loop-pair
decreases-loop-pair l = 128 - l.listing.len
