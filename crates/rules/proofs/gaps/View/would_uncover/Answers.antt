use Rattle.std.proofs.Common.{sym, refl, rules}
use Rattle.model.proofs.Ranges.{any_over}
use Rattle.rules.proofs.Losing.{loses_none}
use Rattle.rules.proofs.gaps.View.would_uncover.Goals as goal

pub returns-then-lost-ne0 : goal.returns-then-lost-ne0
returns-then-lost-ne0 g c = any_over _ _ _ _ _ _ refl refl c.any.ensures.ran (λ x q k. search rules) (λ x q k. search rules)

pub returns-else-lost-ne0 : goal.returns-else-lost-ne0
returns-else-lost-ne0 g c = rw c.if-lost-ne0.false (sym (loses_none _ _ _ _ _ (rw c.if-lost-ne0.false at c.requires)))
