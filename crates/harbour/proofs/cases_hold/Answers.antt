use Rattle.harbour.proofs.Cases.{line_cases, plan_cases}
use Rattle.harbour.proofs.Checks.{check_cases}
use Rattle.harbour.proofs.Files.{file_cases}
use Rattle.harbour.proofs.Runs.{run_cases}
use Rattle.harbour.proofs.cases_hold.Goals as goal

pub returns : goal.returns
returns c = record { file = file_cases; lines = line_cases; plans = plan_cases; checks = check_cases; runs = run_cases }
