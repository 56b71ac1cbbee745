use Rattle.std.proofs.Common.{refl, rules}
use Rattle.model.proofs.Ranges.{first_over}
use Rattle.rules.specs.Finding.{first_gap_in}
use Rattle.rules.proofs.GapTelling.{told, whole}
use Rattle.rules.proofs.gaps.View.first_gap.Goals as goal

pub returns : goal.returns
unfolding first_gap_in
returns g c =
    let s = g.S.Survey.situation c.args.self.now.survey.now in
    let law = g.S.Survey.lawful c.args.self.now.survey.now in
    let e = first_over _ _ _ _ _ refl refl c.find_map.ensures.runs (λ x a q k. search rules) in
    record { value = e; law = told s law c.args.self.now.prospect _ e; whole = whole s law c.args.self.now.prospect _ e }
