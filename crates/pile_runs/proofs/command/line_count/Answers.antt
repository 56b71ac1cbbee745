use Rattle.std.proofs.Common.{◌∙◌, rules}
use Rattle.universe.proofs.Sounds.{sound}
use Rattle.pile_runs.proofs.Telling.{count_planned}
use Rattle.pile_runs.proofs.command.line_count.Goals as goal

pub returns-in_ok-list-in-Goal : goal.returns-in_ok-list-in-Goal
returns-in_ok-list-in-Goal c =
    c.unwrap_or.ensures ∙ count_planned _ c.args.request c.in-Goal.goal c.plan.result (sound c.args.universe.now.tables c.args.universe.now.sound).valid c.in-Goal.is (search rules)
