use Rattle.std.proofs.Common.{◌≡◌}
use Rattle.executor.specs.Stages.{lines_of}
use Rattle.executor.specs.Steps.{running}
use Rattle.sengoruwa_c.proofs.Stepping.{Passed}
use Rattle.sengoruwa_c.proofs.running.step_all.Given as goal

-- so many of the steps were taken, and the plan is the same
abbrev pub invariant-loop-answer : goal.invariant-loop-answer
invariant-loop-answer g l =
    Passed g.B.Survey.situation g.B.Host.service g.B.Host.does (lines_of l.fn.plan) (running l.fn.host l.fn.plan l.fn.ticket) (running l.host l.plan l.ticket) l.answers l.answer-index
    × (l.plan.plan ≡ l.fn.plan.plan)
