-- The answers of the verifying layer are those of a host. Assumes nothing.
use Rattle.std.proofs.Common.{◌≡◌, Bool, true, false, not, ◌&&◌, eqb, is_some, Some, None, Err, Option, sym, refl, ap, ◌∙◌, inl, inr, true≢false, arith}
use Rattle.std.proofs.lemmas.Bool.{and_from, and_parts, both_ways, cases_Bool, eq-eqb, eqb-true}
use Rattle.model.specs.declared.order.Order.{Order}
use Rattle.model.proofs.Searches.{refuted}
use Rattle.hosts.specs.declared.refusal.Offence.{Offence}
use Rattle.hosts.specs.declared.refusal.Reason.TheVariants.{Gap, Full}
use Rattle.hosts.specs.Survey.{Situation}
use Rattle.hosts.specs.Service.{Profile, Sane, Service, above}
use Rattle.hosts.specs.Offences.{offence, refused_if}
use Rattle.hosts.specs.Answers.{Answer, Answered, Free, Gives, Meaning, decision, illegal_or, full_test, is_tested, leaves_gap, meaning}
use Rattle.hosts.proofs.Heights.{up_to}
use Rattle.layers.specs.Verifying.{Relays, stopped, watched}

-- a watchful host decides as one that is not, unless a tested order without offence leaves a gap
same_rule : (x : Option Offence) (w t g f : Bool) → (x ≡ None → t ≡ true → g ≡ false) →
    illegal_or x (refused_if (w && (t && g)) Gap (refused_if f Full None)) ≡ illegal_or x (refused_if (true && (t && g)) Gap (refused_if f Full None))
same_rule (Some e) w t g f h = refl
same_rule None true t g f h = refl
same_rule None false false g f h = refl
same_rule None false true g f h = rw (h refl refl)

nothing : {X : Type 0} (o : Option X) → not (is_some o) ≡ true → o ≡ None
nothing None e = refl
nothing (Some a) e = absurd (true≢false (sym e))

no_offence : {X : Type 0} (o : Option X) → o ≡ None → not (is_some o) ≡ true
no_offence o e = rw e

module _ (o : Order) (s : Situation) (v : Service) where
  -- a stopped order is tested, not put off and without offence, and leaves a gap
  pub record Stop : Type 0 where
    pub tested : is_tested o ≡ true
    pub free : v.load.waits ≡ 0
    pub none : offence o s ≡ None
    pub gap : leaves_gap o s ≡ true

  stop_parts : stopped o (meaning s v) ≡ true → Stop
  stop_parts e =
      let a = and_parts (is_tested o) _ e in
      let b = and_parts (eqb v.load.waits 0 && not (is_some (offence o s))) _ a.1 in
      let d = and_parts (eqb v.load.waits 0) _ b.0 in
      record { tested = a.0; free = eqb-true _ _ d.0; none = nothing _ d.1; gap = b.1 }

  -- the layer's own refusal is the rule that refuses
  own_rule : Stop → Some Gap ≡ decision o (meaning s (watched v))
  unfolding decision
  own_rule p = rw (p.none, p.tested, p.gap)

  -- where the layer does not stop the order, it decides as the host below
  rule_below : stopped o (meaning s v) ≡ false → v.load.waits ≡ 0 → decision o (meaning s v) ≡ decision o (meaning s (watched v))
  unfolding decision
  rule_below e w =
      same_rule (offence o s) v.profile.watchful (is_tested o) (leaves_gap o s) (full_test o v.load) (λ none tested.
      refuted (leaves_gap o s) (λ gap.
      both_ways (stopped o (meaning s v)) e
      (and_from _ _ tested (and_from _ _ (and_from _ _ (eq-eqb _ _ w) (no_offence (offence o s) none)) gap))))

-- where the layer stops the order, it answers as a watchful host
stopped_answers : (o : Order) (s : Situation) (v : Service) → Sane v → stopped o (meaning s v) ≡ true →
    Answered o (meaning s (watched v)) (meaning s (watched v)) (Err (record { reason = Gap; height = above v.profile.height }))
stopped_answers o s v sane e =
    let p = stop_parts o s v e in
    record {
      busy = λ l. absurd (omega (arith, p.free));
      decided = λ w. record {
        answer = own_rule o s v p;
        situation = refl;
        profile = refl;
        free = record { waits = sane.waits; creations = omega arith; bindings = omega arith; height = omega arith };
      };
    }

-- and where it does not, what the host below answers is what a watchful host answers
pub passed_answers : (o : Order) (s s' : Situation) (v v' : Service) (r : Answer) → Sane v → stopped o (meaning s v) ≡ false →
    Answered o (meaning s v) (meaning s' v') r → Answered o (meaning s (watched v)) (meaning s' (watched v')) r
passed_answers o s s' v v' r sane e b =
    record {
      busy = λ l. let p = b.busy l in record {
        answer = p.answer;
        after = ap (λ (k : Meaning). meaning k.situation (watched k.service)) p.after;
        free = raised p.free;
      };
      decided = λ w. let d = b.decided w in record {
        answer = d.answer ∙ rule_below o s v e w;
        situation = d.situation;
        profile = ap (λ (k : Profile). record { longest = k.longest; watchful = true; height = above k.height }) d.profile;
        free = raised d.free;
      };
    }
  where
    raised : Free o (meaning s v) (meaning s' v') r → Free o (meaning s (watched v)) (meaning s' (watched v')) r
    raised f = record { waits = f.waits; creations = f.creations; bindings = f.bindings; height = up_to _ r sane.height f.height }

-- what the layer relays is what a host answers, where what the host below does is
pub relayed_answers : {B : Type 0} (s : B → Situation) (v : B → Service) (o : Order) (h k : B) (r : Answer) → Sane (v h) →
    Relays s v (Gives s v) o h k r → Gives s (λ b. watched (v b)) o h k r
relayed_answers s v o h k r sane a =
    elim (cases_Bool (stopped o (meaning (s h) (v h)))) [
      | inl e ↦ let b = a.stops e in rw (b.1, b.0) (stopped_answers o (s h) (v h) sane e)
      | inr e ↦ passed_answers o (s h) (s k) (v h) (v k) r sane e (a.passes e)
    ]
