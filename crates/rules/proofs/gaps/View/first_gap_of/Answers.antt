use Rattle.std.proofs.Common.{true, false, rules, ◌≡◌}
use Rattle.std.proofs.lemmas.Iterator.{first_from_Range}
use Rattle.model.specs.Bounded.{gap_at}
use Rattle.rules.specs.Finding.{viewed, first_gap_at}
use Rattle.rules.proofs.GapTelling.{first_here, none_of}
use Rattle.rules.proofs.gaps.View.first_gap_of.Goals as goal

pub returns-in_err-at : goal.returns-in_err-at
unfolding first_gap_at
returns-in_err-at g c =
    let v = viewed g.S.Survey.situation c.args.self.now in
    search (rules, none_of v.universe v.config c.args.instance)

pub returns : goal.returns
unfolding first_gap_at
returns g c =
    let v = viewed g.S.Survey.situation c.args.self.now in
    let found = first_from_Range _ _ _ c.find.result (λ p. gap_at 256 v.universe v.config c.args.instance p ≡ true)
    (λ p. gap_at 256 v.universe v.config c.args.instance p ≡ false) c.find.ensures.ran (λ x q k. search rules) (λ x q k. search rules) in
    search (rules, first_here v.universe v.config c.args.instance _ _ found)
