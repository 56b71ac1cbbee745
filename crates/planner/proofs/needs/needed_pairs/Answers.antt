use Rattle.std.proofs.Common.{refl, arith}
use Rattle.std.proofs.lemmas.List.{length-map}
use Rattle.planner.specs.Goals.{goal_of, pair_of_line}
use Rattle.planner.proofs.Wanting.{needing_begins, needing_few, needing_passed, needing_room, needing_taken}
use Rattle.planner.proofs.needs.needed_pairs.Goals as goal

pub loop-rank-init : goal.loop-rank-init
loop-rank-init c = needing_begins c.args.order.now (goal_of c.args.goal.now) _ c.len-rank.result refl refl c.len-rank.ensures

pub push_front-requires-clause-room : goal.push_front-requires-clause-room
push_front-requires-clause-room c =
    needing_room c.args.order.now (goal_of c.args.goal.now) c.loop-rank.rank c.loop-rank.needed c.loop-rank.required c.loop-rank.invariant
    c.loop-rank-test.true

pub loop-rank-preserved-then-is_needed : goal.loop-rank-preserved-then-is_needed
loop-rank-preserved-then-is_needed c =
    needing_taken c.args.order.now (goal_of c.args.goal.now) c.loop-rank.rank c.loop-rank.needed c.loop-rank.required c.loop-rank.invariant
    c.loop-rank-test.true c.is_needed.result c.is_needed.ensures c.if-is_needed.true c.pair_at-pair.result c.pair_at-pair.ensures
    c.push_front.new.self c.push_front.ensures.fits c.push_front.ensures.pairs c.path_ports-required.result c.path_ports-required.ensures

pub loop-rank-preserved : goal.loop-rank-preserved
loop-rank-preserved c =
    needing_passed c.args.order.now (goal_of c.args.goal.now) c.loop-rank.rank c.loop-rank.needed c.loop-rank.required c.loop-rank.invariant
    c.loop-rank-test.true c.is_needed.result c.is_needed.ensures c.if-is_needed.false

pub returns-clause-few : goal.returns-clause-few
returns-clause-few c =
    needing_few c.args.order.now (goal_of c.args.goal.now) c.loop-rank.rank c.loop-rank.needed c.loop-rank.required c.loop-rank.invariant
    (omega arith) (omega (arith, length-map c.args.goal.now pair_of_line, c.requires))
