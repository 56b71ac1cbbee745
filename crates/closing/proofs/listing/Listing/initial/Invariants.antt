use Rattle.plans.proofs.Growing.{initial_below}
use Rattle.closing.specs.Listing.{Lists}
use Rattle.closing.proofs.listing.Listing.initial.Given as goal

abbrev pub invariant-loop-kind : goal.invariant-loop-kind
invariant-loop-kind l = Lists l.universe.tables (initial_below l.kind) l.listing
