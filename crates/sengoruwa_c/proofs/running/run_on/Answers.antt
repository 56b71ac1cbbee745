use Rattle.std.proofs.Common.{sym, ◌∙◌}
use Rattle.sengoruwa_c.proofs.Lowered.{mapped_ok, ran_on}
use Rattle.sengoruwa_c.proofs.running.run_on.Goals as goal

pub returns-clause-ran : goal.returns-clause-ran
returns-clause-ran g c =
    let begun = mapped_ok c.start.result c.map_err.result _ _ c.map_err.ensures.cases c.map_err.ensures.variant c.in_ok-plan-2.was in
    ran_on g.B.Survey.situation g.B.Host.service g.B.Host.does c.args.host.now c.step_all.new.host _ _ c.in_ok-plan-2.plan c.step_all.new.plan c.in_ok-plan-2.ticket c.step_all.new.ticket
    c.args.answers.now c.step_all.new.answers c.args.standing.now c.fill_standing.new.standing c.finish.result c.ended_of.result
    (sym c.check.ensures.answer ∙ c.in_ok-plan.was) (sym c.start.ensures.answer ∙ begun) c.step_all.ensures c.fill_standing.ensures c.finish.ensures c.ended_of.ensures
