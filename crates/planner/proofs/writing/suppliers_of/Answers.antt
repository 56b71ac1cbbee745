use Rattle.std.proofs.Common.{arith, rules}
use Rattle.planner.specs.Writing.{plan_on}
use Rattle.planner.proofs.Linking.{made_at}
use Rattle.planner.proofs.writing.suppliers_of.Goals as goal

pub returns : goal.returns
returns c = λ p low.
    made_at (plan_on c.args.order.now c.args.pairs.now).supplier _ c.from_fn.result (λ i y t k. search rules)
    0 32 c.from_fn.ensures.items.each p 0 (omega arith) (omega arith)
