-- The actions are taken one after the other. Assumes nothing.
use Rattle.std.proofs.Common.{◌≡◌, ℕ, ◌+◌, ◌<◌, List, [], ◌∷◌, ◌++◌, length, map, take, get_or, set, Some, Result, refl, sym, ap, ◌∙◌}
use Rattle.std.proofs.Math.Seq.{map-set_same}
use Rattle.std.proofs.lemmas.List.{length-map, map-append, map-set, take_more_set}
use Rattle.model.specs.declared.order.Order.{Order}
use Rattle.hosts.specs.Survey.{Situation}
use Rattle.hosts.specs.Service.{Service}
use Rattle.hosts.specs.Answers.{Answer}
use Rattle.executor.specs.declared.fault.StepFault.{StepFault}
use Rattle.executor.specs.Steps.{Running, Takes, TakesAll, order_at}
use Rattle.runs.specs.declared.request.Act.{Act}
use Rattle.runs.specs.Promise.{actions_of, answers_of}

module _ {H : Type 0} (s : H → Situation) (v : H → Service) (does : Order → H → H → Answer → Type 0) (xs : List ℕ) where
  -- one step more at the end
  pub takes_more : (a b c : Running H) (rs : List (Result (Unit {0}) StepFault)) (r : Result (Unit {0}) StepFault) →
      TakesAll s v does xs a rs b → Takes s v does (order_at xs b.place) b r c → TakesAll s v does xs a (rs ++ r ∷ []) c
  unfolding TakesAll
  takes_more a b c [] r h t = (c, rw h at t, refl)
  takes_more a b c (q ∷ rs) r h t = (h.0, h.1, takes_more h.0 b c rs r h.2 t)

  -- so many of the actions were taken
  pub record Passed (a b : Running H) (before now : List Act) (i : ℕ) : Type 0 where
    pub told : List (Result (Unit {0}) StepFault)
    pub steps : TakesAll s v does xs a told b
    pub actions : actions_of now ≡ actions_of before
    pub answers : take i (answers_of now) ≡ map Some told

  -- none at first
  pub passed_none : (a : Running H) (acts : List Act) → Passed a a acts acts 0
  unfolding TakesAll
  passed_none a acts = record { told = []; steps = refl; actions = refl; answers = refl }

  -- one more, whose answer is written into its place
  pub passed_more : (a b c : Running H) (before now : List Act) (i : ℕ) (r : Result (Unit {0}) StepFault) (d y : Act) → i < length now →
      y.action ≡ (get_or now i d).action → y.answer ≡ Some r →
      Passed a b before now i → Takes s v does (order_at xs b.place) b r c → Passed a c before (set now i y) (i + 1)
  passed_more a b c before now i r d y low same written p t = record {
    told = p.told ++ r ∷ [];
    steps = takes_more a b c p.told r p.steps t;
    actions = map-set_same (λ (e : Act). e.action) now i y d same ∙ p.actions;
    answers =
        ap (take (i + 1)) (map-set (λ (e : Act). e.answer) now i y)
        ∙ take_more_set (answers_of now) i y.answer (rw (length-map now (λ (e : Act). e.answer)) low)
        ∙ ap (λ zs. zs ++ y.answer ∷ []) p.answers
        ∙ ap (λ z. map Some p.told ++ z ∷ []) written
        ∙ sym (map-append Some p.told (r ∷ []));
  }
