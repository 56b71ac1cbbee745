use Rattle.std.proofs.Common.{◌<◌, ◌^◌, arith, rules}
use Rattle.pile_runs.proofs.Telling.{steps_told}
use Rattle.pile_runs.proofs.command.run_steps.Goals as goal

pub returns : goal.returns
returns g c =
    let short : c.args.steps < 2 ^ 63 = omega (arith, c.in_ok-acts.acts.small, c.in_ok-acts.acts.ok.0, c.in_ok-acts.acts.ok.1, c.in_ok-acts.ensures.len) in
    steps_told g.B.Survey.situation g.B.Host.service g.B.Host.does c.args.request c.args.host.now c.run_report.new.host c.args.steps _ _ _ _ c.run_report.result
    (search rules) (search rules) short c.run_report.ensures.told
