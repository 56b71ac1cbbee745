-- A watchful host opens no gap. Assumes nothing.
use Rattle.std.proofs.Common.{◌≡◌, ℕ, true, false, None, Ok, Err, sym, refl, inl, inr}
use mathlib.Core.Bool.{false≢true}
use Rattle.std.proofs.lemmas.Bool.{cases_Bool}
use Rattle.model.specs.declared.order.Order.{Order}
use Rattle.model.specs.declared.order.Order.TheVariants.{Create, Bind, Change, Unbind, Delete}
use Rattle.model.specs.Universe.{Universe}
use Rattle.model.specs.Config.{Config}
use Rattle.model.specs.Gaps.{GapFree}
use Rattle.model.specs.Orders.{result_of}
use Rattle.model.specs.Laws.{Opens}
use Rattle.model.proofs.GapSearch.{search_law}
use Rattle.model.proofs.Openings.{opening_law}
use Rattle.hosts.specs.Survey.{Situation, Lawful}
use Rattle.hosts.specs.Offences.{offence}
use Rattle.hosts.specs.Answers.{Meaning, decision, is_tested, leaves_gap}
use Rattle.hosts.specs.Laws.{UntestedLaw, WatchfulLaw}
use Rattle.hosts.proofs.Deciding.{decision_free, done_law, refused_law}
use Rattle.hosts.proofs.Offending.{lawful_after, lawful_below, offence_none}

-- only a tested order opens gaps
opens_none : (u : Universe) (c : Config) (o : Order) (z p : ℕ) → is_tested o ≡ false → Opens u c o z p → ⊥
opens_none u c (Create z' t) z p e x = x
opens_none u c (Bind b) z p e x = x
opens_none u c (Change z' q) z p e x = false≢true (sym e)
opens_none u c (Unbind b) z p e x = false≢true (sym e)
opens_none u c (Delete z') z p e x = x

-- a watchful host decides against a tested order that leaves a gap
decided_free : (o : Order) (m : Meaning) → decision o m ≡ None → m.service.profile.watchful ≡ true → is_tested o ≡ true → leaves_gap o m.situation ≡ false
decided_free o m e w t = let h = decision_free o m e in rw (w, t) at h

-- an order that is not tested keeps what stands gap-free
pub untested_law : UntestedLaw
untested_law o s law none e free z p g =
    opens_none s.universe s.config o z p e (opening_law s.universe s.config o law.valid free (offence_none s law o none).0 z p g)

module _ (o : Order) (s : Situation) (law : Lawful s) (none : offence o s ≡ None) where
  -- and one that leaves no gap is gap-free in its result
  tested : leaves_gap o s ≡ false → GapFree s.universe (result_of o s.config)
  tested e = (search_law 256 s.universe (result_of o s.config) law.valid (lawful_below _ (lawful_after s law o none))).0 e

pub watchful_law : WatchfulLaw
watchful_law o m n (Err y) law w a =
    let stays = refused_law o m n (Err y) y.reason a refl in
    ((λ free. rw stays free), (λ e. absurd (false≢true e)))
watchful_law o m n (Ok x) law w a =
    let d = done_law o m n (Ok x) a refl in
    let after : is_tested o ≡ true → GapFree n.situation.universe n.situation.config =
    λ t. rw d.2 (tested o m.situation law d.1 (decided_free o m (sym (a.decided d.0).answer) w t)) in (
      λ free. elim (cases_Bool (is_tested o)) [
        | inl t ↦ after t
        | inr t ↦ rw d.2 (untested_law o m.situation law d.1 t free)
      ],
      λ e t. after t,
    )
