use Rattle.checking.proofs.Checked.{checked_right, checked_unless}
use Rattle.checking.proofs.check.check.Goals as goal

pub returns-clause-law : goal.returns-clause-law
returns-clause-law g c = checked_unless _ c.args.draft (g.S.Survey.lawful _) _ c.judge_draft.ensures

pub returns-clause-refused : goal.returns-clause-refused
returns-clause-refused g c = checked_right _ c.args.draft (g.S.Survey.lawful _) _ c.judge_draft.ensures
