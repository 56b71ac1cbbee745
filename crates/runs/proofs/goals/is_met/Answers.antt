use Rattle.std.proofs.Common.{sym, ◌∙◌, rules}
use Rattle.std.proofs.lemmas.Iterator.{YieldsList-from_slice}
use Rattle.std.proofs.lemmas.Iterator.Search.{all_from_yields_List}
use Rattle.std.proofs.lemmas.List.Folds.{list_all-map}
use Rattle.planner.specs.Goals.{goal_of, pair_of_line}
use Rattle.runs.specs.Goals.{attained}
use Rattle.runs.proofs.Meeting.{tells_met}
use Rattle.runs.proofs.goals.is_met.Goals as goal

pub returns : goal.returns
returns g c =
    let s = g.S.Survey.situation c.args.survey.now in
    let value =
    all_from_yields_List (λ b. attained s.config (pair_of_line b)) _ _ c.all.result c.all.ensures.ran
    (YieldsList-from_slice c.args.goal.now c.iter.ensures.rest) (λ x b q k. search rules)
    ∙ sym (list_all-map (attained s.config) pair_of_line c.args.goal.now) in
    record { value = value; law = tells_met s (g.S.Survey.lawful c.args.survey.now) (goal_of c.args.goal.now) c.all.result value }
