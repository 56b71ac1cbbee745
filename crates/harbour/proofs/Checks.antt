-- The worked cases of the check: by computation, but for the number of bindings, of which there are none.
use Rattle.std.proofs.Common.{◌≡◌, ℕ, false, true, leb, not, [], ◌∷◌, None, Ok, Err, Result, refl, ap, ◌∙◌}
use Rattle.std.specs.Fmt.{digits}
use Rattle.model.specs.declared.order.Order.TheVariants.{Create, Bind, Change}
use Rattle.model.specs.Bounded.{any_gap, covered, gap_at}
use Rattle.model.specs.Config.{Config, empty}
use Rattle.model.specs.Counts.{bindings}
use Rattle.model.specs.Orders.{result_of}
use Rattle.model.specs.Search.{any}
use Rattle.model.proofs.Counting.{bindings_none, instances_none}
use Rattle.hosts.specs.Offences.{offence}
use Rattle.hosts.specs.Answers.{leaves_gap}
use Rattle.plans.specs.Plan.{binding}
use Rattle.checking.specs.declared.refusal.CheckRefusal.TheVariants.{AtLine, NotEmpty}
use Rattle.checking.specs.declared.refusal.LineFault.TheVariants.{Gap}
use Rattle.checking.specs.declared.refusal.CheckRefusal.{CheckRefusal}
use Rattle.checking.specs.declared.refusal.LineFault.{LineFault}
use Rattle.checking.specs.Checking.{checked, empty_judged, is_empty, plan_of}
use Rattle.checking.specs.declared.stages.Draft.{Draft}
use Rattle.checking.specs.Judging.{after_line, and_then, length_judged, refused_if, line_judged, replayed, situation}
use Rattle.checking.proofs.Orders.{judged_done, judged_gap}
use Rattle.harbour.specs.Harbour.{harbour}
use Rattle.harbour.specs.Checks.{CheckCases, early_draft}

-- what stands after one, two and three of the lines
abbrev c1 : Config
c1 = result_of (Create 0 0) empty

abbrev c2 : Config
c2 = result_of (Create 1 1) c1

abbrev c3 : Config
c3 = result_of (Bind (binding 0 0 1)) c2

module _ where
  -- what the lines leave has no gap but after the last
  gap1 : leaves_gap (Create 0 0) (situation harbour empty) ≡ false
  unfolding any covered gap_at any_gap result_of
  gap1 = refl

  gap2 : leaves_gap (Create 1 1) (situation harbour c1) ≡ false
  unfolding any covered gap_at any_gap result_of
  gap2 = refl

  gap3 : leaves_gap (Bind (binding 0 0 1)) (situation harbour c2) ≡ false
  unfolding any covered gap_at any_gap result_of
  gap3 = refl

  gap4 : leaves_gap (Change 1 1) (situation harbour c3) ≡ true
  unfolding any covered gap_at any_gap result_of
  gap4 = refl

  -- each order is legal
  legal1 : offence (Create 0 0) (situation harbour empty) ≡ None
  legal1 = refl

  legal2 : offence (Create 1 1) (situation harbour c1) ≡ None
  unfolding result_of
  legal2 = refl

  legal3 : offence (Bind (binding 0 0 1)) (situation harbour c2) ≡ None
  unfolding any result_of
  legal3 = refl

  legal4 : offence (Change 1 1) (situation harbour c3) ≡ None
  unfolding result_of
  legal4 = refl

  -- no binding stands before the bind
  none2 : bindings 32 256 c2 ≡ 0
  unfolding result_of
  none2 = bindings_none 32 256 c2 (λ p x y. refl)

  line1 : line_judged (situation harbour empty) 0x20000000 ≡ Ok c1
  unfolding line_judged
  line1 = judged_done (situation harbour empty) (Create 0 0) legal1 gap1 refl

  line2 : line_judged (situation harbour c1) 0x20200010 ≡ Ok c2
  unfolding line_judged
  line2 = judged_done (situation harbour c1) (Create 1 1) legal2 gap2 refl

  line3 : line_judged (situation harbour c2) 0x40002000 ≡ Ok c3
  unfolding line_judged
  line3 = judged_done (situation harbour c2) (Bind (binding 0 0 1)) legal3 gap3 (ap (λ n. leb 2048 n) none2)

  line4 : line_judged (situation harbour c3) 0x60200002 ≡ Err Gap
  unfolding line_judged
  line4 = judged_gap (situation harbour c3) (Change 1 1) legal4 gap4

early : replayed harbour 0 empty early_draft ≡ Err (AtLine 3 Gap)
unfolding replayed
early =
    after 0 line1 (λ d. replayed harbour 1 d (0x20200010 ∷ 0x40002000 ∷ 0x60200002 ∷ []))
    ∙ after 1 line2 (λ d. replayed harbour 2 d (0x40002000 ∷ 0x60200002 ∷ []))
    ∙ after 2 line3 (λ d. replayed harbour 3 d (0x60200002 ∷ []))
    ∙ ap (λ j. after_line 3 j (λ d. replayed harbour 4 d [])) line4
  where
    after : (place : ℕ) {j : Result Config LineFault} {d : Config} → j ≡ Ok d → (rest : Config → Result (Unit {0}) CheckRefusal) → after_line place j rest ≡ rest d
    after place e rest = ap (λ k. after_line place k rest) e

-- nothing stands in the empty harbour
vacant : is_empty (situation harbour empty) ≡ true
vacant = rw (instances_none 256 empty (λ z. refl), bindings_none 32 256 empty (λ p x y. refl))

-- so the check of these lines says what their judgement does
early_checked : (d : Draft) → d.lines.now ≡ early_draft → checked (situation harbour empty) d ≡ Err (AtLine 3 Gap)
early_checked d is =
    ap (λ xs. plan_of d (and_then (length_judged xs) (and_then (empty_judged (situation harbour empty)) (replayed harbour 0 empty xs)))) is
    ∙ ap (λ b. plan_of d (and_then (refused_if (not b) NotEmpty (Ok tt)) (replayed harbour 0 empty early_draft))) vacant
    ∙ ap (plan_of d) early

pub check_cases : CheckCases
unfolding digits
check_cases = record { orders = refl; judged = early; shown = refl; checked = early_checked }
