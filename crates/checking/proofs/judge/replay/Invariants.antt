use Rattle.universe.specs.Held.{universe_in}
use Rattle.checking.proofs.Turns.{Passed}
use Rattle.checking.proofs.judge.replay.Given as goal

-- all lines before this one passed
abbrev pub invariant-loop-place : goal.invariant-loop-place
invariant-loop-place l = Passed (universe_in l.fn.universe) l.lines l.place l.table
