use Rattle.universe.specs.Held.{universe_in}
use Rattle.table.specs.Records.{config_of}
use Rattle.table.proofs.Covered.{deleted_counted}
use Rattle.table.proofs.covers.Covers.delete.Goals as goal

pub returns : goal.returns
returns c =
    deleted_counted (universe_in c.args.universe.now) (config_of c.args.records.now) c.args.self.now.counts c.requires.counted c.clear.new.self.counts
    c.args.instance c.requires.low c.replace.new.self.counts c.replace.ensures c.clear.ensures
