-- The law over runs. Assumes nothing.
use Rattle.std.proofs.Common.{List, [], ◌∷◌, ◌≡◌, All, length, slice_get, take, refl, ap, ◌∙◌, arith}
use Rattle.std.proofs.Math.Seq.{take-length}
use Rattle.std.proofs.lemmas.List.Elements.{All-cons, All-nil}
use Rattle.model.specs.declared.order.Order.{Order}
use Rattle.model.specs.Runs.{after}
use Rattle.hosts.specs.Answers.{Meaning}
use Rattle.execution.specs.Steps.{Progress, Step, Steps, begun, reached}
use Rattle.execution.specs.Laws.{AsExpected, EndsLaw, Intact, Start, StepsLaw}
use Rattle.execution.proofs.Standing.{Kept, kept_first, kept_step}
use Rattle.execution.proofs.Waiting.{ends_at}

module _ (os : List Order) (m : Meaning) (start : Start os m) where
  -- what is kept is all that has to hold
  intact : (a : Progress) → Kept os m a → Intact os m a
  intact a k = record {
    place = k.place;
    stands = k.at.stands;
    gap_free = k.at.gap_free;
    lawful = k.at.lawful;
    formed = k.at.formed;
    sane = k.sane;
    profile = k.profile;
    counted = k.leases;
    leases = λ none. omega (arith, k.leases);
  }

  -- so all of it holds after every step, from where it is kept
  steps_hold : (a : Progress) (ts : List Step) → Kept os m a → Steps os a ts → All (λ t. Intact os m t.progress × AsExpected t.answer) ts
  unfolding Steps
  steps_hold a [] k h = All-nil (λ (t : Step). Intact os m t.progress × AsExpected t.answer)
  steps_hold a (t ∷ ts) k h =
      let s = kept_step os m start a t.progress (slice_get os a.place) t.answer refl k h.0 in
      All-cons (λ (t : Step). Intact os m t.progress × AsExpected t.answer) t ts (intact t.progress s.0, s.1) (steps_hold t.progress ts s.0 h.1)

  -- and where the steps lead
  pub steps_reach : (a : Progress) (ts : List Step) → Kept os m a → Steps os a ts → Intact os m (reached a ts)
  unfolding Steps reached
  steps_reach a [] k h = intact a k
  steps_reach a (t ∷ ts) k h =
      steps_reach t.progress ts (kept_step os m start a t.progress (slice_get os a.place) t.answer refl k h.0).0 h.1

  -- at the end all lines have led there
  ends_stand : (a : Progress) → Intact os m a → a.place ≡ length os →
      a.host.situation ≡ record { universe = m.situation.universe; config = after m.situation.config os }
  ends_stand a s e =
      s.stands
      ∙ ap (λ ps. record { universe = m.situation.universe; config = after m.situation.config ps })
      (ap (λ k. take k os) e ∙ take-length os)

pub steps_law : StepsLaw
steps_law os m ts start h = steps_hold os m start (begun m) ts (kept_first os m start) h

pub ends_law : EndsLaw
ends_law os m ts start h c many =
    let last = ends_at os m start ts h c many in
    (last, ends_stand os m start _ (steps_reach os m start (begun m) ts (kept_first os m start) h) last)
