-- How many instances and bindings an order without offence adds. Assumes nothing.
use Rattle.std.proofs.Common.{arith}
use Rattle.model.specs.declared.order.Order.TheVariants.{Create, Bind, Change, Unbind, Delete}
use Rattle.model.proofs.Counting.{count_law}
use Rattle.hosts.specs.Laws.{GrowthLaw}
use Rattle.hosts.proofs.Offending.{bind_range, offence_none, unbind_range}

-- from how each legal order moves the counts
pub growth_law : GrowthLaw
growth_law s (Create z t) law e =
    let l = offence_none s law (Create z t) e in
    let m = count_law 32 256 s.universe s.config (Create z t) l.0 l.1 in
    (omega (arith, m.0), omega (arith, m.1))
growth_law s (Bind j) law e =
    let r = bind_range s law j e in
    let m = count_law 32 256 s.universe s.config (Bind j) (offence_none s law (Bind j) e).0 (omega (arith, r.0, law.valid.ports)) r.1 r.2 in
    (omega (arith, m.0), omega (arith, m.1))
growth_law s (Change z q) law e =
    let m = count_law 32 256 s.universe s.config (Change z q) (offence_none s law (Change z q) e).0 in
    (omega (arith, m.0), omega (arith, m.1))
growth_law s (Unbind j) law e =
    let r = unbind_range s law j e in
    let m = count_law 32 256 s.universe s.config (Unbind j) (offence_none s law (Unbind j) e).0 (omega (arith, r.0, law.valid.ports)) r.1 r.2 in
    (omega (arith, m.0), omega (arith, m.1))
growth_law s (Delete z) law e =
    let l = offence_none s law (Delete z) e in
    let m = count_law 32 256 s.universe s.config (Delete z) l.0 l.1 in
    (omega (arith, m.0), omega (arith, m.1))
