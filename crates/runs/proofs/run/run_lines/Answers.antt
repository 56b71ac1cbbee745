use Rattle.std.proofs.Common.{sym, ◌∙◌}
use Rattle.runs.proofs.Stages.{ran_over}
use Rattle.runs.proofs.run.run_lines.Goals as goal

pub returns-clause-ran : goal.returns-clause-ran
returns-clause-ran g c =
    ran_over g.B.Survey.situation g.B.Host.service g.B.Host.does c.args.host.now c.act_all.new.host _ _ c.in_ok-plan-2.plan c.act_all.new.plan c.in_ok-plan-2.ticket c.act_all.new.ticket c.args.acts.now c.act_all.new.acts c.finish-place.result
    (sym c.check.ensures.answer ∙ c.in_ok-plan.was) (sym c.start.ensures.answer ∙ c.in_ok-plan-2.was) c.act_all.ensures.acted c.finish-place.ensures
