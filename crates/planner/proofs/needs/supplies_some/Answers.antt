use Rattle.std.proofs.Common.{refl, rules}
use Rattle.model.proofs.Ranges.{any_over}
use Rattle.planner.proofs.needs.supplies_some.Goals as goal

pub returns : goal.returns
returns c = any_over _ _ _ _ _ _ refl (search rules) c.any.ensures.ran (λ x q k. search rules) (λ x q k. search rules)
