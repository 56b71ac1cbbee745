use Rattle.std.proofs.Common.{◌≤◌, eqb, length, arith, rules}
use Rattle.table.specs.Fit.{standing}
use Rattle.table.proofs.RowSearch.{provider_found, tested}
use Rattle.table.proofs.records.Records.is_provider.Goals as goal

pub returns : goal.returns
returns c =
    let t = c.args.self.now in
    let room : t.len ≤ length t.rows = omega (arith, t.fit.most, t.fit.room) in
    provider_found t.rows t.len t.fit.formed (standing t.slots) c.args.instance c.place_of-place.result c.place_of-place.ensures
    _ (tested t.rows t.len _ (λ b. eqb b.provider c.args.instance) c.get.result _ room (rw c.used_rows.ensures at c.get.ensures.lookup) (search rules))
