use Rattle.std.proofs.Common.{not, ap, ◌∙◌}
use Rattle.std.proofs.lemmas.Bool.{eq-eqb}
use Rattle.planner.proofs.Wanting.{supplies_none}
use Rattle.planner.proofs.needs.supplies.Goals as goal

pub returns-else-provided-ports-ne0 : goal.returns-else-provided-ports-ne0
returns-else-provided-ports-ne0 c =
    ap not (eq-eqb _ 0 c.if-provided-ports-ne0.false)
    ∙ supplies_none c.args.order.now c.args.ports c.args.rank c.provided.result c.pair_at.result c.requires c.pair_at.ensures
    c.provided.ensures c.if-provided-ports-ne0.false
