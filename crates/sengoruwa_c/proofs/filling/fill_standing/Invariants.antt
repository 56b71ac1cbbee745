use Rattle.std.proofs.Common.{◌≡◌}
use Rattle.sengoruwa_c.specs.Filled.{begun}
use Rattle.sengoruwa_c.specs.Numbers.{standing_number}
use Rattle.sengoruwa_c.proofs.filling.fill_standing.Given as goal

-- so many places are written
abbrev pub invariant-loop-place : goal.invariant-loop-place
invariant-loop-place g l = l.standing ≡ begun (λ z. standing_number ((g.S.Survey.situation l.survey).config.inst z)) l.place l.fn.standing
