use Rattle.std.proofs.Common.{rules, ◌∙◌}
use Rattle.std.proofs.lemmas.Iterator.{YieldsList-from_slice}
use Rattle.std.proofs.lemmas.Iterator.Search.{all_from_yields_List}
use Rattle.plans.specs.Lists.{listed}
use Rattle.closing.specs.Order.{pairs_in_order}
use Rattle.planner.specs.Goals.{pair_of_line}
use Rattle.planner.proofs.Naming.{all_named}
use Rattle.planner.proofs.goal.is_in_reach.Goals as goal

pub returns : goal.returns
returns c =
    let l = pairs_in_order c.args.order.now in
    all_from_yields_List (λ b. listed l (pair_of_line b)) _ _ c.all.result c.all.ensures.ran
    (YieldsList-from_slice c.args.goal.now c.iter.ensures.rest) (λ x b q k. search rules)
    ∙ all_named l c.args.goal.now
