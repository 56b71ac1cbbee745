use Rattle.planner.proofs.Placing.{wrote_length, wrote_lines}
use Rattle.planner.proofs.Linking.{short}
use Rattle.planner.proofs.writing.Plan.write_whole.Goals as goal

pub returns-clause-count : goal.returns-clause-count
returns-clause-count c =
    let s = c.args.self.now in
    wrote_length c.write.ensures (short s.order.now s.pairs.now s.suppliers s.planned)

pub returns-clause-lines : goal.returns-clause-lines
returns-clause-lines c =
    let s = c.args.self.now in
    wrote_lines c.write.ensures (short s.order.now s.pairs.now s.suppliers s.planned) c.requires
