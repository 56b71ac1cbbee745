use Rattle.closing.proofs.Ranking.{tells_none}
use Rattle.closing.proofs.ranks.Ranks.none.Goals as goal

pub returns : goal.returns
returns c = λ u l long. tells_none u l c.args.len long
