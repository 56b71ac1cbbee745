use Rattle.std.proofs.Common.{refl, rules}
use Rattle.model.proofs.Ranges.{any_over}
use Rattle.runs.proofs.goals.is_attained.Goals as goal

pub returns : goal.returns
returns g c = any_over _ _ _ _ _ _ refl refl c.any.ensures.ran (λ x q k. search rules) (λ x q k. search rules)
