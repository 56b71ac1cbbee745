use Rattle.std.proofs.Common.{◌≡◌, ◌<◌, length, refl, ◌∙◌, arith}
use Rattle.executor.specs.Steps.{running}
use Rattle.sengoruwa_c.proofs.Stepping.{passed_all, passed_more, passed_none}
use Rattle.sengoruwa_c.proofs.running.step_all.Goals as goal

pub loop-answer-init : goal.loop-answer-init
loop-answer-init g c = (passed_none _ _ _ _ _ _, refl)

pub loop-answer-preserved : goal.loop-answer-preserved
loop-answer-preserved g c =
    let l = c.loop-answer in
    let inside : l.answer-index < length l.answers = omega arith in (
      passed_more g.B.Survey.situation g.B.Host.service g.B.Host.does _ _ (running l.host l.plan l.ticket) (running c.step.new.host c.step.new.plan c.step.new.ticket) l.answers _ c.step.result c.step_number.result inside c.step_number.ensures l.invariant.0 (rw l.invariant.1 at c.step.ensures.taken),
      c.step.ensures.plan ∙ l.invariant.1,
    )

pub returns : goal.returns
returns g c =
    let l = c.loop-answer in
    let last : l.answer-index ≡ length l.answers = omega arith in
    let same : length l.answers ≡ length c.args.answers.now = omega arith in
    passed_all _ _ _ _ _ _ _ l.answers _ last same l.invariant.0
