use Rattle.std.proofs.Common.{rules, arith}
use Rattle.universe.specs.Held.{universe_in}
use Rattle.closing.proofs.Ranking.{tells_before}
use Rattle.closing.proofs.ranks.Ranks.of.Goals as goal

pub loop-rank-preserved : goal.loop-rank-preserved
loop-rank-preserved c =
    tells_before (universe_in c.args.universe.now) c.args.pairs.now c.loop-rank.rank c.loop-rank.ranks c.note.new.self _
    c.loop-rank-test.true (omega arith) (search rules) c.loop-rank.invariant c.note.ensures
