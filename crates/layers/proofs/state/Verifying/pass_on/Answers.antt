use Rattle.std.proofs.Common.{refl, rules}
use Rattle.hosts.specs.Answers.{meaning}
use Rattle.layers.specs.Verifying.{watched}
use Rattle.layers.proofs.Passing.{gap_free_after}
use Rattle.layers.proofs.Relaying.{passed_answers}
use Rattle.layers.proofs.state.Verifying.pass_on.Goals as goal

pub invariant_of-self-2 : goal.invariant_of-self-2
invariant_of-self-2 g c =
    let h = c.args.self.now.below in
    let k = c.give.new.host in
    let s = g.B.Survey.situation in
    let v = g.B.Host.service in
    let a = passed_answers c.args.order (s h) (s k) (v h) (v k) c.give.result (g.B.Host.sane h) c.requires c.give.ensures.answered in
    record {
      gap_free = gap_free_after c.args.order (meaning (s h) (watched (v h))) (meaning (s k) (watched (v k))) c.args.self.now.is_gap_free c.is_tested.result
          (g.B.Survey.lawful h) (g.B.Survey.lawful k) refl c.is_tested.ensures c.args.self.now.gap_free (search (rules, a));
    }
