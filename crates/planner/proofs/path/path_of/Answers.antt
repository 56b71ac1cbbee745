use Rattle.planner.proofs.Climbing.{climbing_ends, climbing_lower, climbing_more, climbing_room}
use Rattle.planner.proofs.path.path_of.Goals as goal

pub push_front-requires-clause-room : goal.push_front-requires-clause-room
push_front-requires-clause-room c =
    climbing_room c.args.order.now c.args.pair c.requires c.loop-at.path c.loop-at.at c.loop-at.invariant c.loop-at-test.true

pub loop-at-smaller : goal.loop-at-smaller
loop-at-smaller c =
    climbing_lower c.args.order.now c.args.pair c.requires c.loop-at.path c.loop-at.at c.loop-at.invariant c.loop-at-test.true
    c.parent.result c.pair_at-at.result c.parent.ensures c.pair_at-at.ensures

pub loop-at-preserved : goal.loop-at-preserved
loop-at-preserved c =
    climbing_more c.args.order.now c.args.pair c.requires c.loop-at.path c.loop-at.at c.loop-at.invariant c.loop-at-test.true
    c.parent.result c.pair_at-at.result c.parent.ensures c.pair_at-at.ensures c.push_front.new.self
    c.push_front.ensures.fits c.push_front.ensures.states

pub returns-clause-states : goal.returns-clause-states
returns-clause-states c =
    climbing_ends c.args.order.now c.args.pair c.requires c.loop-at.path c.loop-at.at c.loop-at.invariant c.loop-at-test.false
