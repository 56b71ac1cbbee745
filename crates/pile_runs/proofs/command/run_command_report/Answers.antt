use Rattle.pile_runs.proofs.Telling.{command_told}
use Rattle.pile_runs.proofs.command.run_command_report.Goals as goal

pub returns : goal.returns
returns c =
    command_told c.args.file.now c.in_ok-universe.universe c.args.options c.args.request c.args.steps c.in_ok-steps.steps _ c.pile_run.result
    c.read_universe.ensures c.in_ok-universe.was c.in_ok-steps.ensures c.pile_run.ensures
