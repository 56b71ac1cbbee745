use Rattle.std.proofs.Common.{rules, ◌∙◌}
use Rattle.std.proofs.lemmas.Iterator.{YieldsList-from_slice}
use Rattle.std.proofs.lemmas.Iterator.Search.{any_from_yields_List}
use Rattle.plans.specs.Lists.{same_pair}
use Rattle.planner.specs.Goals.{pair_of_line}
use Rattle.planner.proofs.Naming.{named}
use Rattle.planner.proofs.goal.has_pair.Goals as goal

pub returns : goal.returns
returns c =
    any_from_yields_List (λ b. same_pair c.args.pair (pair_of_line b)) _ _ c.any.result c.any.ensures.ran
    (YieldsList-from_slice c.args.goal.now c.iter.ensures.rest) (λ x b q k. search rules)
    ∙ named c.args.goal.now c.args.pair
