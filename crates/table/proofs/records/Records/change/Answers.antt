use Rattle.std.proofs.Common.{rules}
use Rattle.table.proofs.Performed.{changed_fit}
use Rattle.table.proofs.records.Records.change.Goals as goal

pub invariant_of-self : goal.invariant_of-self
invariant_of-self c =
    let t = c.args.self.now in
    record { fit = changed_fit t.slots t.rows t.len t.count t.bindings t.fit c.args.instance c.requires c.args.state c.map.result (search rules) }
