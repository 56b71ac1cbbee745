use Rattle.std.proofs.Common.{◌≡◌}
use Rattle.executor.specs.Stages.{lines_of}
use Rattle.executor.specs.Steps.{running}
use Rattle.runs.proofs.Acting.{Passed}
use Rattle.runs.proofs.run.act_all.Given as goal

-- so many of the actions were taken, and the plan is the same
abbrev pub invariant-loop-entry : goal.invariant-loop-entry
invariant-loop-entry g l =
    Passed g.B.Survey.situation g.B.Host.service g.B.Host.does (lines_of l.fn.plan) (running l.fn.host l.fn.plan l.fn.ticket) (running l.host l.plan l.ticket) l.fn.acts l.acts l.entry-index
    × (l.plan.plan ≡ l.fn.plan.plan)
