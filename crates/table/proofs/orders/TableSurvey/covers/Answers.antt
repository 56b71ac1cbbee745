use Rattle.std.proofs.Common.{◌∙◌}
use Rattle.universe.specs.Held.{universe_in}
use Rattle.table.specs.Records.{config_of}
use Rattle.table.proofs.RowSearch.{held_within}
use Rattle.table.proofs.Covered.{counted_within}
use Rattle.table.proofs.orders.TableSurvey.covers.Goals as goal

pub returns : goal.returns
returns c =
    let t = c.args.self.now in
    let r = t.records in
    c.at.ensures ∙ counted_within (universe_in t.universe) (config_of r) t.covers.counts t.counted
    (λ p x y. held_within r.rows r.len r.fit.formed.ordered p x y) c.args.port c.args.requirer
