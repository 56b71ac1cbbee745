use Rattle.std.proofs.Common.{◌≡◌, true, false, rules, arith, tests}
use Rattle.std.proofs.lemmas.Iterator.{cases_from_any, YieldsList-from_range}
use Rattle.universe.specs.Sets.{has}
use Rattle.universe.proofs.PackedSets.{from_any}
use Rattle.universe.proofs.sets.Field.has_from.Goals as goal

pub returns : goal.returns
returns g c =
    let w = g.Self.Field.WIDTH in
    let set = g.Self.Field.bits c.args.self in
    from_any w set c.args.first c.any.result
    (cases_from_any c.any.new.self _ c.any.result (λ x. has w set x ≡ true) (λ x. has w set x ≡ false) c.any.ensures.ran (YieldsList-from_range c.args.first w _ (search rules) (omega arith)) (λ x q k. search (rules, tests)) (λ x q k. search (rules, tests)))
