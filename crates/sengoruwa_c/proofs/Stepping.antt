-- Steps are taken one after the other, and their answers written as numbers. Assumes nothing.
use Rattle.std.proofs.Common.{◌≡◌, ℕ, ◌+◌, ◌<◌, List, [], ◌∷◌, ◌++◌, length, map, take, set, Result, refl, sym, ap, ◌∙◌}
use Rattle.std.proofs.lemmas.List.{length-append, map-append, take_more_set}
use Rattle.std.proofs.Math.Seq.{take-length}
use Rattle.model.specs.declared.order.Order.{Order}
use Rattle.hosts.specs.Survey.{Situation}
use Rattle.hosts.specs.Service.{Service}
use Rattle.hosts.specs.Answers.{Answer}
use Rattle.executor.specs.declared.fault.StepFault.{StepFault}
use Rattle.executor.specs.Steps.{Running, Takes, TakesAll, order_at}
use Rattle.runs.proofs.Acting.{takes_more}
use Rattle.sengoruwa_c.specs.Numbers.{step_number}
use Rattle.sengoruwa_c.specs.Runs.{Stepped}

module _ {H : Type 0} (s : H → Situation) (v : H → Service) (does : Order → H → H → Answer → Type 0) (xs : List ℕ) where
  -- so many of the steps were taken
  pub record Passed (a b : Running H) (now : List ℕ) (i : ℕ) : Type 0 where
    pub told : List (Result (Unit {0}) StepFault)
    pub steps : TakesAll s v does xs a told b
    pub each : length told ≡ i
    pub answers : take i now ≡ map step_number told

  -- none at first
  pub passed_none : (a : Running H) (now : List ℕ) → Passed a a now 0
  unfolding TakesAll
  passed_none a now = record { told = []; steps = refl; each = refl; answers = refl }

  -- one more, whose answer is written into its place
  pub passed_more : (a b c : Running H) (now : List ℕ) (i : ℕ) (r : Result (Unit {0}) StepFault) (n : ℕ) → i < length now → n ≡ step_number r →
      Passed a b now i → Takes s v does (order_at xs b.place) b r c → Passed a c (set now i n) (i + 1)
  passed_more a b c now i r n low told p t = record {
    told = p.told ++ r ∷ [];
    steps = takes_more s v does xs a b c p.told r p.steps t;
    each = length-append p.told (r ∷ []) ∙ ap (λ k. k + 1) p.each;
    answers =
        take_more_set now i n low ∙ ap (λ zs. zs ++ n ∷ []) p.answers ∙ ap (λ k. map step_number p.told ++ k ∷ []) told
        ∙ sym (map-append step_number p.told (r ∷ []));
  }

  -- all of them
  pub passed_all : (a b : Running H) (before now : List ℕ) (i : ℕ) → i ≡ length now → length now ≡ length before → Passed a b now i → Stepped s v does xs a b before now
  passed_all a b before now i last same p = record {
    told = p.told;
    steps = p.steps;
    each = p.each ∙ last ∙ same;
    answers = sym (ap (λ k. take k now) last ∙ take-length now) ∙ p.answers;
  }
