use Rattle.universe.specs.Held.{universe_in}
use Rattle.closing.specs.Listing.{pairs_of}
use Rattle.closing.proofs.Tracking.{none_waiting}
use Rattle.closing.proofs.listing.Listing.next_of.Goals as goal

pub returns-then-waiting-eq0 : goal.returns-then-waiting-eq0
returns-then-waiting-eq0 c =
    none_waiting (universe_in c.args.universe.now) (pairs_of c.args.self.now) c.args.kind c.waiting-waiting.result c.waiting-waiting.ensures
    c.if-waiting-eq0.true
