use Rattle.std.proofs.Common.{length, ◌∙◌, arith}
use Rattle.std.proofs.lemmas.Bool.{le-ltb}
use Rattle.planner.proofs.Linking.{never_short}
use Rattle.planner.proofs.writing.Plan.is_short.Goals as goal

pub returns-else-lines-lt-MOST_LINES : goal.returns-else-lines-lt-MOST_LINES
returns-else-lines-lt-MOST_LINES c =
    let s = c.args.self.now in
    let room = length c.args.lines.now in
    le-ltb room 11136 (omega arith) ∙ never_short s.order.now s.pairs.now s.suppliers s.planned c.requires room (omega arith)
