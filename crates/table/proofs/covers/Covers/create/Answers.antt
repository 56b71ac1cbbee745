use Rattle.universe.specs.Held.{universe_in}
use Rattle.table.specs.Records.{config_of}
use Rattle.table.proofs.Covered.{created_counted}
use Rattle.table.proofs.covers.Covers.create.Goals as goal

pub returns : goal.returns
returns c =
    created_counted (universe_in c.args.universe.now) (config_of c.args.records.now) c.args.self.now.counts c.requires.counted c.replace.new.self.counts
    c.args.instance c.requires.low c.args.kind c.replace.ensures
