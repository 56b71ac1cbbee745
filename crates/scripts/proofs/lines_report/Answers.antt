use Rattle.std.proofs.Common.{string_bytes, arith, rules}
use Rattle.scripts.proofs.ScriptTurns.{report_last, report_more}
use Rattle.scripts.proofs.lines_report.Goals as goal

pub returns-then-is_err : goal.returns-then-is_err
returns-then-is_err c = report_last (string_bytes c.loop-place.text) c.args.lines.now c.loop-place.place _ c.loop-place.invariant c.decode-order.result (string_bytes c.in_ok-line_report.field-0) _ c.in_ok-line_report.ensures (search rules) c.decode-order.ensures (omega arith) (search rules)

pub loop-place-preserved : goal.loop-place-preserved
loop-place-preserved c = report_more (string_bytes c.loop-place.text) c.args.lines.now c.loop-place.place _ c.loop-place.invariant c.decode-order.result (string_bytes c.in_ok-line_report.field-0) _ c.in_ok-line_report.ensures (search rules) c.decode-order.ensures (omega arith) (search rules)
