use Rattle.std.proofs.Common.{◌≤◌, string_bytes}
use Rattle.executor.specs.Steps.{order_at}
use Rattle.runs.specs.Promise.{answers_of}
use Rattle.run_text.proofs.Lines.{Telling}
use Rattle.run_text.proofs.texts.answer_lines.Given as goal

-- so many answers are told
abbrev pub invariant-loop-act : goal.invariant-loop-act
invariant-loop-act l = (l.place ≤ l.act-index) × Telling (order_at l.lines) (answers_of l.acts) (string_bytes l.text) l.place l.act-index
