use Rattle.std.proofs.Common.{sym, ◌∙◌}
use Rattle.executor.proofs.Stepping.{some_of, takes_line}
use Rattle.executor.proofs.steps.step.Goals as goal

pub returns-clause-taken : goal.returns-clause-taken
returns-clause-taken g c =
    takes_line g.B.Survey.situation g.B.Host.service g.B.Host.does _ _ (g.B.Survey.lawful c.args.host.now)
    c.args.plan.now c.give_line.new.plan c.args.ticket.now c.give_line.new.ticket c.in_ok-order.order c.give_line.result _ _
    (sym c.next_order.ensures.value ∙ some_of _ _ _ (sym c.ok_or.ensures.value ∙ c.in_ok-order.was))
    c.give_line.ensures.answered c.give_line.ensures.exact c.give_line.ensures.place c.give_line.ensures.ticket c.at_place.ensures
