use Rattle.std.proofs.Common.{◌≡◌, rules}
use Rattle.model.specs.Config.{moved}
use Rattle.universe.specs.Held.{universe_in}
use Rattle.table.specs.Records.{config_of}
use Rattle.table.proofs.Covered.{changed_counted}
use Rattle.table.proofs.covers.Covers.change.Goals as goal

pub returns : goal.returns
returns c =
    let r = config_of c.args.records.now in
    let is : c.map-next.result ≡ moved (r.inst c.args.instance) c.args.state = search rules in
    changed_counted (universe_in c.args.universe.now) r c.args.self.now.counts c.requires.counted c.replace.new.self.counts c.args.instance c.requires.low
    c.args.state c.map-next.result is c.replace.ensures
