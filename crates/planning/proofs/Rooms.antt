-- A list of more places than any script has lines gives no other answer. Assumes nothing.
use Rattle.std.proofs.Common.{◌≡◌, ℕ, ◌≤◌, min, List, length, ltb, Ok, Err, Result, refl, ap, ◌∙◌, subst, inl, inr, arith}
use Rattle.std.proofs.lemmas.Bool.{cases_lt, le-ltb, lt-ltb}
use Rattle.model.specs.declared.order.Order.{Order}
use Rattle.model.specs.Universe.{Universe, Valid}
use Rattle.universe.specs.declared.held.Universe.{Universe as Held}
use Rattle.universe.specs.declared.tables.Tables.{Tables}
use Rattle.universe.specs.Held.{universe_in}
use Rattle.universe.specs.Reading.{Read}
use Rattle.universe.specs.Tables.{universe_of}
use Rattle.universe.proofs.Sounds.{sound}
use Rattle.planner.specs.declared.refusal.PlanRefusal.{PlanRefusal}
use Rattle.planner.specs.Planning.{planned}
use Rattle.planner.proofs.Promising.{planned_short}
use Rattle.console.specs.Refused.{refusal_told}
use Rattle.console.specs.declared.failure.Failure.{Failure}
use Rattle.console.specs.Told.{Told}
use Rattle.planning.specs.Planning.{lines_in, planned_lines}

-- the test of the room comes out alike
same_test : (n room : ℕ) → n ≤ 11136 → ltb (min room 11136) n ≡ ltb room n
same_test n room few =
    elim (cases_lt room n) [
      | inl lt ↦ rw (lt-ltb room n lt) (lt-ltb (min room 11136) n (omega arith))
      | inr ge ↦ rw (le-ltb room n ge) (le-ltb (min room 11136) n (omega arith))
    ]

-- and so do the lines
pub same_lines : (u : Universe) (bs : List ℕ) (room : ℕ) → Valid u → lines_in (min room 11136) (planned u bs) ≡ lines_in room (planned u bs)
same_lines u bs room ok = by (planned u bs) refl
  where
    by : (p : Result (List Order) PlanRefusal) → planned u bs ≡ p → lines_in (min room 11136) p ≡ lines_in room p
    by (Ok os) e = rw (same_test (length os) room (planned_short u bs ok os e))
    by (Err e) p = refl

-- of a file that was read, the lines are those of its universe
read_lines : (bs : List ℕ) (room : ℕ) (r : Read Tables) (t : Tables) → Ok t ≡ refusal_told r →
    lines_in room (planned (universe_of t) bs) ≡ planned_lines bs room r
read_lines bs room (Ok s) t e = (let z : t ≡ s = cc in ap (λ x. lines_in room (planned (universe_of x) bs)) z)
read_lines bs room (Err d) t e = absurd (let z : ◌≡◌ {A = ℕ} 0 1 = cc in omega arith)

pub file_lines : (bs : List ℕ) (room : ℕ) (r : Read Tables) (h : Held) → Ok h.tables ≡ refusal_told r →
    lines_in (min room 11136) (planned (universe_in h) bs) ≡ planned_lines bs room r
file_lines bs room r h e =
    same_lines (universe_in h) bs room (sound h.tables h.sound).valid ∙ read_lines bs room r h.tables e

-- so a call that tells the lines for the universe that was read tells those of the file
pub told_lines : {T E : Type 0} (f : T → List ℕ) (g : E → List ℕ) (told : Result T (Failure E)) (bs : List ℕ) (room n : ℕ) (r : Read Tables) (h : Held) →
    Told f g told (lines_in n (planned (universe_in h) bs)) → n ≡ min room 11136 → Ok h.tables ≡ refusal_told r →
    Told f g told (planned_lines bs room r)
told_lines f g told bs room n r h lines short read =
    subst (Told f g told) (ap (λ m. lines_in m (planned (universe_in h) bs)) short ∙ file_lines bs room r h read) lines
