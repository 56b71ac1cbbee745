use Rattle.table.proofs.Performed.{created_fit}
use Rattle.table.proofs.records.Records.create.Goals as goal

pub invariant_of-self : goal.invariant_of-self
invariant_of-self c =
    let t = c.args.self.now in
    record { fit = created_fit t.slots t.rows t.len t.count t.bindings t.fit c.args.instance c.requires.0 c.args.kind c.requires.1 }
