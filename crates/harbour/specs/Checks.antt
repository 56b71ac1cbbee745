-- Worked cases of the check.
use Rattle.std.specs.Prelude.{◌≡◌, ℕ, List, [], ◌∷◌, map, Ok, Err, codes}
use Rattle.model.specs.declared.order.Order.TheVariants.{Create, Bind, Change}
use Rattle.model.specs.Config.{empty}
use Rattle.lines.specs.Line.{decoded}
use Rattle.plans.specs.Plan.{binding}
use Rattle.checking.specs.declared.refusal.CheckRefusal.TheVariants.{AtLine}
use Rattle.checking.specs.declared.refusal.LineFault.TheVariants.{Gap}
use Rattle.checking.specs.declared.stages.Draft.{Draft}
use Rattle.checking.specs.Judging.{judged, situation}
use Rattle.checking.specs.Checking.{checked}
use Rattle.checking.specs.Refusals.{check_text}
use Rattle.harbour.specs.Harbour.{harbour}

-- the lines of a draft in which the roster starts to serve while the lock that it is bound to does not
abbrev pub early_draft : List ℕ
early_draft = 0x20000000 ∷ 0x20200010 ∷ 0x40002000 ∷ 0x60200002 ∷ []

pub record CheckCases : Type 0 where
  -- its orders: a lock and a roster are created, the roster is bound to the lock, and the roster changes to its state 1
  pub orders : map decoded early_draft ≡ map Ok (Create 0 0 ∷ Create 1 1 ∷ Bind (binding 0 0 1) ∷ Change 1 1 ∷ [])
  -- the last of them leaves a gap
  pub judged : judged harbour early_draft ≡ Err (AtLine 3 Gap)
  -- which is shown as 45, with its place
  pub shown : check_text (AtLine 3 Gap) ≡ codes "45 at 3"
  -- and so the check says on every empty host of the harbour
  pub checked : (d : Draft) → d.lines.now ≡ early_draft → checked (situation harbour empty) d ≡ Err (AtLine 3 Gap)
