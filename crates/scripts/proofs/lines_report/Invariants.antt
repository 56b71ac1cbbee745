use Rattle.std.proofs.Common.{◌≡◌, drop, string_bytes}
use Rattle.console.specs.Told.{report}
use Rattle.scripts.specs.Scripts.{lines_text, lines_refused}
use Rattle.scripts.proofs.ScriptTurns.{report_on}
use Rattle.scripts.proofs.lines_report.Given as goal

-- what is printed and what is left give the whole
abbrev pub invariant-loop-place : goal.invariant-loop-place
invariant-loop-place l = report_on (string_bytes l.text) l.place (drop l.place l.lines) ≡ report (lines_refused l.lines) (lines_text 0 l.lines)
