use Rattle.std.proofs.Common.{sym, ◌∙◌}
use Rattle.closing.proofs.Rounds.{round_begins, round_ends, round_more, round_pair, round_room}
use Rattle.closing.proofs.listing.Listing.whole.Goals as goal

pub loop-pair-init : goal.loop-pair-init
loop-pair-init c = round_begins c.args.universe.now c.initial-listing.result c.initial-listing.ensures

pub push-requires-clause-room : goal.push-requires-clause-room
push-requires-clause-room c =
    round_room c.args.universe.now c.loop-pair.listing c.in-Some.pair c.loop-pair.invariant (sym c.next_pair.ensures ∙ c.in-Some.is)

pub push-requires-clause-in_universe : goal.push-requires-clause-in_universe
push-requires-clause-in_universe c =
    round_pair c.args.universe.now c.loop-pair.listing c.in-Some.pair c.loop-pair.invariant (sym c.next_pair.ensures ∙ c.in-Some.is)

pub loop-pair-preserved : goal.loop-pair-preserved
loop-pair-preserved c =
    round_more c.args.universe.now c.loop-pair.listing c.in-Some.pair c.loop-pair.invariant (sym c.next_pair.ensures ∙ c.in-Some.is) c.push.new.self c.push.ensures

pub returns : goal.returns
returns c = round_ends c.args.universe.now c.loop-pair.listing c.loop-pair.invariant (sym c.next_pair.ensures ∙ c.in_default.is)
