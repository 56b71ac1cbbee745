use Rattle.planner.proofs.Linking.{walk_ends, walk_more}
use Rattle.planner.proofs.writing.Plan.write_walk.Goals as goal

pub loop-to-preserved : goal.loop-to-preserved
loop-to-preserved c =
    walk_more _ _ _ _ _ _ c.loop-to.to-index c.loop-to.from c.loop-to-test.true c.loop-to.invariant c.write_step-place.ensures

pub returns : goal.returns
returns c = walk_ends _ _ _ _ _ _ c.loop-to.to-index c.loop-to.from c.loop-to-test.false c.loop-to.invariant
