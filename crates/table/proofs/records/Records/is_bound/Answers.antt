use Rattle.std.proofs.Common.{◌≡◌, ◌+◌, ◌*◌, ◌<◌, ◌≤◌, ◌&&◌, eqb, length, arith, rules}
use Rattle.universe.specs.Sets.{has}
use Rattle.table.specs.Rows.{rank}
use Rattle.table.proofs.RowSearch.{held_found, tested}
use Rattle.table.proofs.records.Records.is_bound.Goals as goal

pub returns : goal.returns
returns c =
    let t = c.args.self.now in
    let j = c.args.binding in
    let room : t.len ≤ length t.rows = omega (arith, t.fit.most, t.fit.room) in
    let lx : j.provider < 256 = omega arith in
    let ly : j.requirer < 256 = omega arith in
    let is : c.rank-rank.result ≡ j.provider * 256 + j.requirer = omega (arith, c.rank-rank.ensures, c.of.ensures.provider, c.of.ensures.requirer) in
    held_found t.rows t.len t.fit.formed.ordered j.provider j.requirer c.rank-rank.result c.place_of-place.result lx ly is c.place_of-place.ensures j.port
    _ (tested t.rows t.len _ (λ b. eqb (rank b) c.rank-rank.result && has 32 b.ports j.port) c.get.result _ room (rw c.used_rows.ensures at c.get.ensures.lookup) (search rules))
