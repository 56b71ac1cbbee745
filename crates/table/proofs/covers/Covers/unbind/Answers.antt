use Rattle.universe.specs.Held.{universe_in}
use Rattle.table.specs.Records.{config_of}
use Rattle.table.proofs.Covered.{bound_least}
use Rattle.table.proofs.covers.Covers.unbind.Goals as goal

pub recount_port-requires-clause-counted : goal.recount_port-requires-clause-counted
recount_port-requires-clause-counted c =
    let j = c.args.binding in
    bound_least (universe_in c.args.universe.now) (config_of c.args.records.now) c.args.self.now.counts c.requires.counted j.provider c.provided-now.result c.requires.range.1
    (rw c.at.ensures at c.provided-now.ensures) j.port j.requirer c.requires.range.0 c.requires.range.2 c.requires.bound
