-- What is reported of a fresh pile. Assumes nothing.
use Rattle.std.proofs.Common.{◌≡◌, ℕ, List, [], ◌∷◌, ◌++◌, IfOk, string_bytes, Result, String, sym, refl, ap, ◌∙◌, inl, inr, append_assoc}
use Rattle.std.specs.declared.alloc.AllocError.{AllocError}
use Rattle.std.specs.declared.alloc.Global.{Global}
use Rattle.std.proofs.lemmas.Bool.{cases_Bool}
use Rattle.std.proofs.lemmas.Result.{IfOk-weaker}
use Rattle.model.specs.declared.order.Order.{Order}
use Rattle.model.specs.Universe.{Universe}
use Rattle.hosts.specs.Answers.{Answer, Meaning, meaning}
use Rattle.hosts.specs.Service.{Service}
use Rattle.hosts.specs.Survey.{Situation}
use Rattle.cloud.specs.Cloud.{CloudState, CloudTakes, cloud_of, cloud_service, cloud_situation}
use Rattle.layers.specs.Verifying.{Relays, stopped, watched}
use Rattle.hosting.specs.Hosting.{ToldAll, Reported, order_line_of, survey_line}
use Rattle.options.specs.declared.HostOptions.{HostOptions}
use Rattle.piles.specs.Piles.{Pile, ReportedFrom, cloud_alone, fresh, fresh_cloud_of, fresh_text, pile_of, pile_text, verifying}

-- hosts of the type H are the pile p, where s and v tell what a host means, does what it does, and held what the cloud
-- at the bottom holds
pub record IsPile {H : Type 0} (s : H → Situation) (v : H → Service) (does : Order → H → H → Answer → Type 0) (held : H → CloudState) (p : Pile) : Type 0 where
  pub means : (h : H) → meaning (s h) (v h) ≡ p.means (held h)
  pub outcome : (o : Order) (h k : H) (r : Answer) → does o h k r → (r ≡ (p.does o (held h)).answer) × (held k ≡ (p.does o (held h)).after)

-- the cloud is the pile with no layer
pub cloud_is : IsPile cloud_situation cloud_service CloudTakes cloud_of cloud_alone
cloud_is = record { means = λ h. refl; outcome = λ o h k r t. (t.answer, t.after) }

module _ {H : Type 0} (s : H → Situation) (v : H → Service) (does : Order → H → H → Answer → Type 0) (held : H → CloudState) (p : Pile) (is : IsPile s v does held p) where
  -- a layer over a pile is the pile with one layer more
  pub layer_is : {K : Type 0} (below : K → H) →
      IsPile (λ k. s (below k)) (λ k. watched (v (below k))) (λ o h k r. Relays s v does o (below h) (below k) r) (λ k. held (below k)) (verifying p)
  layer_is below = record {
    means = λ h. ap (λ (m : Meaning). meaning m.situation (watched m.service)) (is.means (below h));
    outcome = λ o h k r a.
        rw (sym (is.means (below h)))
        (elim (cases_Bool (stopped o (meaning (s (below h)) (v (below h))))) [
          | inl e ↦ rw e (let b = a.stops e in (b.1, ap held b.0))
          | inr e ↦ rw e (is.outcome o (below h) (below k) r (a.passes e))
        ]);
  }

  -- what is told of orders to a pile is what the pile does with them
  told_text : (os : List Order) (h k : H) (text : List ℕ) → ToldAll s v does os h k text → text ++ survey_line (s k) ≡ pile_text p os (held h)
  told_text [] h k text a = rw (a.0, a.1) (ap (λ (m : Meaning). survey_line m.situation) (is.means h))
  told_text (o ∷ os) h k text a =
      let t = a.3 in
      let d = is.outcome o h a.0 t.answer t.exact in
      let load = ap (λ (m : Meaning). m.service.load) (is.means a.0) ∙ ap (λ c. (p.means c).service.load) d.1 in
      let line = t.line ∙ ap (λ r. order_line_of o r (v a.0).load) d.0 ∙ ap (order_line_of o (p.does o (held h)).answer) load in
      ap (λ bs. bs ++ survey_line (s k)) a.5 ∙ append_assoc a.1 a.2 (survey_line (s k)) ∙ ap (λ bs. bs ++ (a.2 ++ survey_line (s k))) line
      ∙ ap (λ bs. order_line_of o (p.does o (held h)).answer (p.means (p.does o (held h)).after).service.load ++ bs)
      (told_text os a.0 k a.2 a.4 ∙ ap (pile_text p os) d.1)

  -- and it is told of a host
  told_host : (os : List Order) (h k : H) (text : List ℕ) → ToldAll s v does os h k text →
      ToldAll (λ m. m.situation) (λ m. m.service) (λ o m n r. Unit {0}) os (meaning (s h) (v h)) (meaning (s k) (v k)) text
  told_host [] h k text a = (ap (λ h. meaning (s h) (v h)) a.0, a.1)
  told_host (o ∷ os) h k text a =
      let t = a.3 in
      (meaning (s a.0) (v a.0), a.1, a.2, record { answer = t.answer; answered = t.answered; exact = tt; line = t.line }, told_host os a.0 k a.2 a.4, a.5)

  -- a report of a pile over a fresh cloud
  pub fresh_report : (os : List Order) (u : Universe) (o : HostOptions) (h k : H) (r : Result (String Global) AllocError) →
      p ≡ pile_of o.layers → held h ≡ fresh_cloud_of u o → IfOk r (λ text. Reported s v does os h k (string_bytes text)) →
      IfOk r (λ text. string_bytes text ≡ fresh_text u o os) × IfOk r (λ text. ReportedFrom os (fresh u o) (string_bytes text))
  fresh_report os u o h k r same opened told =
      let means = is.means h ∙ ap (λ (q : Pile). q.means (held h)) same ∙ ap (pile_of o.layers).means opened in (
        IfOk-weaker r _ _
            (λ text a. a.2 ∙ told_text os h k a.0 a.1 ∙ ap (λ q. pile_text q os (held h)) same ∙ ap (pile_text (pile_of o.layers) os) opened)
            told,
        IfOk-weaker r _ _ (λ text a. (meaning (s k) (v k), rw (sym means) (a.0, told_host os h k a.0 a.1, a.2))) told,
      )
