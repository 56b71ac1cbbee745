use Rattle.closing.proofs.Tracking.{lists_push, pair_small}
use Rattle.closing.proofs.listing.Listing.push.Goals as goal

pub returns : goal.returns
returns c =
    let small = pair_small c.args.universe.now c.args.pair.kind c.args.pair.state c.requires.in_universe in
    let entry = rw (c.from.ensures, c.from-2.ensures) at c.entry-entry.ensures in
    rw c.from-kind.ensures
    (lists_push c.args.universe.now.tables c.args.self.now c.args.pair c.entry-entry.result c.single.result
    c.requires.room small.0 small.1 entry c.single.ensures c.requires.tracks)
