use Rattle.std.proofs.Common.{arith, rules}
use Rattle.checking.proofs.Turns.{passed_first, passed_more}
use Rattle.checking.proofs.judge.replay.Goals as goal

pub loop-place-init : goal.loop-place-init
loop-place-init c = passed_first _ _ _ (search rules)

pub loop-place-preserved : goal.loop-place-preserved
loop-place-preserved c =
    passed_more _ _ _ c.loop-place.table c.replay_at.new.table c.loop-place.invariant.rest (omega arith) (search rules)
    c.loop-place.invariant.large c.replay_at.ensures.kept.0 c.replay_at.ensures.kept.1
