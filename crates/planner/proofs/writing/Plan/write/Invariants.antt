use Rattle.planner.specs.Writing.{Wrote}
use Rattle.planner.proofs.Linking.{instances}
use Rattle.planner.proofs.writing.Plan.write.Given as goal

abbrev pub invariant-loop-number : goal.invariant-loop-number
invariant-loop-number l = Wrote l.fn.lines 0 (instances l.self.order.now l.self.pairs.now l.number) l.lines l.place
