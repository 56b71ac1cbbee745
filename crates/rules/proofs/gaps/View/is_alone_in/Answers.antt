use Rattle.std.proofs.Common.{sym, refl, rules}
use Rattle.model.proofs.Ranges.{any_over}
use Rattle.rules.proofs.Losing.{none_in}
use Rattle.rules.proofs.gaps.View.is_alone_in.Goals as goal

pub returns-then-set-ne0 : goal.returns-then-set-ne0
returns-then-set-ne0 g c = any_over _ _ _ _ _ _ refl (search rules) c.any.ensures.ran (λ x q k. search rules) (λ x q k. search rules)

pub returns-else-set-ne0 : goal.returns-else-set-ne0
returns-else-set-ne0 g c = rw c.if-set-ne0.false (sym (none_in _ _))
