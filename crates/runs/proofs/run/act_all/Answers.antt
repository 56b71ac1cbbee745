use Rattle.std.proofs.Common.{◌<◌, length, get_or, None, Some, refl, ◌∙◌, arith}
use Rattle.runs.specs.declared.request.Act.{Act}
use Rattle.runs.specs.declared.request.Action.TheVariants.{Step}
use Rattle.runs.proofs.Acting.{passed_more, passed_none}
use Rattle.runs.proofs.run.act_all.Goals as goal

pub loop-entry-init : goal.loop-entry-init
loop-entry-init g c = (passed_none _ _ _ _ _ _, refl)

pub loop-entry-preserved : goal.loop-entry-preserved
loop-entry-preserved g c =
    let l = c.loop-entry in
    let inside : l.entry-index < length l.acts = omega arith in
    let blank : Act = record { action = Step; answer = None } in
    let done : Act = record { action = (get_or l.acts l.entry-index blank).action; answer = Some c.act.result } in (
      passed_more _ _ _ _ _ _ _ _ _ _ c.act.result blank done inside refl refl l.invariant.0 (rw l.invariant.1 at c.act.ensures.taken),
      c.act.ensures.plan ∙ l.invariant.1,
    )
