use Rattle.std.proofs.Common.{ap, ◌∙◌}
use Rattle.std.proofs.lemmas.Result.{IfOk-weaker}
use Rattle.hosting.specs.Hosting.{order_line_of}
use Rattle.hosting.proofs.order_report.Goals as goal

pub returns : goal.returns
returns g c =
    IfOk-weaker c.order_line.result _ _
    (λ s e. record { answer = c.give-answer.result; answered = c.give-answer.ensures.answered; exact = c.give-answer.ensures.exact; line = e ∙ ap (order_line_of c.args.order c.give-answer.result) c.load.ensures })
    c.order_line.ensures
