-- What an answer to an order tells. Assumes nothing.
use Rattle.std.proofs.Common.{◌≡◌, ℕ, ◌<◌, Bool, true, false, ◌&&◌, ◌⊎◌, Some, None, Ok, Err, Option, sym, refl, ap, ◌∙◌, subst, inl, inr, arith}
use mathlib.Core.Bool.{false≢true}
use Rattle.std.proofs.lemmas.Bool.{cases_lt, eqb-true}
use Rattle.model.specs.declared.order.Order.{Order}
use Rattle.model.specs.declared.order.Order.TheVariants.{Create, Bind, Change, Unbind, Delete}
use Rattle.model.specs.Gaps.{GapFree}
use Rattle.model.specs.Orders.{result_of}
use Rattle.model.proofs.GapSearch.{search_law}
use Rattle.hosts.specs.declared.refusal.Offence.{Offence}
use Rattle.hosts.specs.declared.refusal.Reason.{Reason}
use Rattle.hosts.specs.declared.refusal.Reason.TheVariants.{Busy, Gap, Full}
use Rattle.hosts.specs.Survey.{Situation, Lawful}
use Rattle.hosts.specs.declared.load.Load.{Load}
use Rattle.hosts.specs.Service.{Profile}
use Rattle.hosts.specs.Offences.{refused_if, offence}
use Rattle.hosts.specs.Answers.{Meaning, Answer, settled, illegal_or, decision, leaves_gap, full_test, is_tested}
use Rattle.hosts.specs.Laws.{Expected, Covers, BusyLaw, DoneLaw, RefusedLaw, ExpectedLaw, CoveredLaw, KeptLaw, StandsLaw}
use Rattle.hosts.proofs.Offending.{lawful_after, lawful_below, none_offence}

-- a wait is over or not
pub put_off_or_not : (w : ℕ) → (0 < w) ⊎ (w ≡ 0)
put_off_or_not w = elim (cases_lt 0 w) [ inl l ↦ inl l | inr l ↦ inr (omega arith) ]

-- the three last rules in a row
abbrev ruled : Option Offence → Bool → Bool → Option Reason
ruled x g f = illegal_or x (refused_if g Gap (refused_if f Full None))

ruled_busy : (x : Option Offence) (g f : Bool) → ruled x g f ≡ Some Busy → ⊥
ruled_busy (Some e) g f h = let z : ◌≡◌ {A = ℕ} 0 1 = cc in omega arith
ruled_busy None true f h = let z : ◌≡◌ {A = ℕ} 0 1 = cc in omega arith
ruled_busy None false true h = let z : ◌≡◌ {A = ℕ} 0 1 = cc in omega arith
ruled_busy None false false h = let z : ◌≡◌ {A = ℕ} 0 1 = cc in omega arith

ruled_none : (x : Option Offence) (g f : Bool) → ruled x g f ≡ None → x ≡ None
ruled_none (Some e) g f h = absurd (let z : ◌≡◌ {A = ℕ} 0 1 = cc in omega arith)
ruled_none None g f h = refl

ruled_free : (x : Option Offence) (g f : Bool) → ruled x g f ≡ None → g ≡ false
ruled_free (Some e) g f h = absurd (let z : ◌≡◌ {A = ℕ} 0 1 = cc in omega arith)
ruled_free None true f h = absurd (let z : ◌≡◌ {A = ℕ} 0 1 = cc in omega arith)
ruled_free None false f h = refl

ruled_full : (x : Option Offence) (g f : Bool) → ruled x g f ≡ Some Full → f ≡ true
ruled_full (Some e) g f h = absurd (let z : ◌≡◌ {A = ℕ} 0 1 = cc in omega arith)
ruled_full None true f h = absurd (let z : ◌≡◌ {A = ℕ} 0 1 = cc in omega arith)
ruled_full None false true h = refl
ruled_full None false false h = absurd (let z : ◌≡◌ {A = ℕ} 0 1 = cc in omega arith)

ruled_expected : (w t f : Bool) → Expected (ruled None (w && (t && false)) f)
ruled_expected true true true = tt
ruled_expected true true false = tt
ruled_expected true false true = tt
ruled_expected true false false = tt
ruled_expected false t true = tt
ruled_expected false t false = tt

-- a watchful host finds a gap
abbrev watched : Order → Meaning → Bool
watched o m = m.service.profile.watchful && (is_tested o && leaves_gap o m.situation)

-- a decision is never busy
decision_busy : (o : Order) (m : Meaning) → decision o m ≡ Some Busy → ⊥
unfolding decision
decision_busy o m h = ruled_busy (offence o m.situation) (watched o m) (full_test o m.service.load) h

decision_none : (o : Order) (m : Meaning) → decision o m ≡ None → offence o m.situation ≡ None
unfolding decision
decision_none o m h = ruled_none (offence o m.situation) (watched o m) (full_test o m.service.load) h

-- what no rule refuses leaves no gap that a watchful host would find
pub decision_free : (o : Order) (m : Meaning) → decision o m ≡ None → (m.service.profile.watchful && (is_tested o && leaves_gap o m.situation)) ≡ false
unfolding decision
decision_free o m h = ruled_free (offence o m.situation) (watched o m) (full_test o m.service.load) h

decision_full : (o : Order) (m : Meaning) → decision o m ≡ Some Full → full_test o m.service.load ≡ true
unfolding decision
decision_full o m h = ruled_full (offence o m.situation) (watched o m) (full_test o m.service.load) h

decision_expected : (o : Order) (m : Meaning) → offence o m.situation ≡ None → leaves_gap o m.situation ≡ false → Expected (decision o m)
unfolding decision
decision_expected o m p q = rw (p, q) (ruled_expected m.service.profile.watchful (is_tested o) (full_test o m.service.load))

full_covers : (o : Order) (l : Load) → Covers o l → full_test o l ≡ true → ⊥
full_covers (Create z t) l c e = omega (arith, eqb-true l.creations 0 e, c.0)
full_covers (Bind j) l c e = omega (arith, eqb-true l.bindings 0 e, c.1)
full_covers (Change z q) l c e = false≢true e
full_covers (Unbind j) l c e = false≢true e
full_covers (Delete z) l c e = false≢true e

-- a gap-free result is found gap-free
leaves_none : (o : Order) (s : Situation) → Lawful s → offence o s ≡ None → GapFree s.universe (result_of o s.config) → leaves_gap o s ≡ false
leaves_none o s law none free =
    let after = lawful_after s law o none in
    (search_law 256 s.universe (result_of o s.config) law.valid (lawful_below _ after)).1 free

pub busy_law : BusyLaw
busy_law o m n r a e =
    elim (put_off_or_not m.service.load.waits) [
      | inl l ↦ (l, (a.busy l).after)
      | inr w ↦ absurd (decision_busy o m (sym (a.decided w).answer ∙ e))
    ]

pub done_law : DoneLaw
done_law o m n (Ok x) a e =
    elim (put_off_or_not m.service.load.waits) [
      | inl l ↦ absurd (let h = (a.busy l).answer in let z : ◌≡◌ {A = ℕ} 0 1 = cc in omega arith)
      | inr w ↦ let d = a.decided w in (w, decision_none o m (sym d.answer), d.situation)
    ]
done_law o m n (Err y) a e = absurd (let z : ◌≡◌ {A = ℕ} 0 1 = cc in omega arith)

pub refused_law : RefusedLaw
refused_law o m n (Ok x) e a h = absurd (let z : ◌≡◌ {A = ℕ} 0 1 = cc in omega arith)
refused_law o m n (Err y) e a h =
    elim (put_off_or_not m.service.load.waits) [
      | inl l ↦ ap (λ (k : Meaning). k.situation) (a.busy l).after
      | inr w ↦ (a.decided w).situation
    ]

pub expected_law : ExpectedLaw
expected_law o m n r law wf legal low free a =
    let s = m.situation in
    let none : offence o s ≡ None = none_offence s law wf o legal low in
    elim (put_off_or_not m.service.load.waits) [
      | inl l ↦ subst (λ (k : Option Reason). Expected k) (sym (a.busy l).answer) tt
      | inr w ↦ subst (λ (k : Option Reason). Expected k) (sym (a.decided w).answer) (decision_expected o m none (leaves_none o s law none free))
    ]

pub covered_law : CoveredLaw
covered_law o m n r covers a e =
    elim (put_off_or_not m.service.load.waits) [
      | inl l ↦ let h = (a.busy l).answer in let z : ◌≡◌ {A = ℕ} 0 1 = cc in omega arith
      | inr w ↦ full_covers o m.service.load covers (decision_full o m (sym (a.decided w).answer ∙ e))
    ]

-- an answer leaves the universe
settled_universe : (o : Order) (r : Answer) (s : Situation) → (settled o r s).universe ≡ s.universe
settled_universe o (Ok x) s = refl
settled_universe o (Err e) s = refl

pub kept_law : KeptLaw
kept_law o m n r sane a =
    elim (put_off_or_not m.service.load.waits) [
      | inl l ↦
          let e = (a.busy l).after in (
            ap (λ (k : Meaning). k.situation.universe) e,
            ap (λ (k : Meaning). k.service.profile) e,
            rw e (record { waits = omega (arith, sane.waits); height = sane.height }),
          )
      | inr w ↦
          let d = a.decided w in
          let p = d.profile in (
            ap (λ (s : Situation). s.universe) d.situation ∙ settled_universe o r m.situation,
            p,
            record {
              waits = rw (ap (λ (k : Profile). k.longest) p) d.free.waits;
              height = rw (ap (λ (k : Profile). k.height) p) sane.height;
            },
          )
    ]

-- done orders lead to what keeps the law of surveys, and refused ones leave what stands
pub stands_law : StandsLaw
stands_law o m n (Ok x) law a = let d = done_law o m n (Ok x) a refl in rw d.2 (lawful_after m.situation law o d.1)
stands_law o m n (Err e) law a = rw (refused_law o m n (Err e) e.reason a refl) law
