-- What is told of a goal is whether it is met. Assumes nothing.
use Rattle.std.proofs.Common.{◌≡◌, ℕ, ◌<◌, Bool, true, List, Some, None, Option, refl, sym, ◌∙◌, inl, inr}
use mathlib.Core.Bool.{false≢true}
use Rattle.std.proofs.lemmas.Bool.{and_from, and_parts, cases_lt, eqb-true, eq-eqb}
use Rattle.std.proofs.lemmas.List.Sums.{AllPass-from_list_all, list_all-from_AllPass}
use Rattle.std.proofs.lemmas.List.Elements.{All-weaker}
use Rattle.std.proofs.lemmas.Option.{none-some}
use Rattle.model.specs.declared.pair.Pair.{Pair}
use Rattle.model.proofs.Searches.{any_found, any_some}
use Rattle.hosts.specs.Survey.{Lawful, Situation}
use Rattle.plans.specs.Goals.{Attained}
use Rattle.runs.specs.Goals.{TellsMet, attained, is_pair, met}

-- a pair is told by its numbers
pair_is : (h : Pair) (o : Option Pair) → is_pair h o ≡ true → o ≡ Some h
pair_is h None e = absurd (false≢true e)
pair_is h (Some g) e =
    let both = and_parts _ _ e in
    let kind = eqb-true _ _ both.0 in
    let state = eqb-true _ _ both.1 in
    λ i. Some (record { kind = kind i; state = state i })

pair_told : (h : Pair) (o : Option Pair) → o ≡ Some h → is_pair h o ≡ true
pair_told h o e = rw e (and_from _ _ (eq-eqb h.kind h.kind refl) (eq-eqb h.state h.state refl))

module _ (s : Situation) (law : Lawful s) where
  -- no instance above 255 stands in a pair
  low : (z : ℕ) (h : Pair) → s.config.inst z ≡ Some h → z < 256
  low z h e = elim (cases_lt z 256) [ inl lt ↦ lt | inr ge ↦ absurd (none-some h (sym (law.inst z ge) ∙ e)) ]

  attained_told : (h : Pair) → attained s.config h ≡ true → Attained s.config h
  attained_told h e = let w = any_some _ 256 e in (w.0, pair_is h (s.config.inst w.0) w.2)

  told_attained : (h : Pair) → Attained s.config h → attained s.config h ≡ true
  told_attained h w = any_found _ w.0 256 (low w.0 h w.1) (pair_told h (s.config.inst w.0) w.1)

  pub tells_met : (goal : List Pair) (r : Bool) → r ≡ met s.config goal → TellsMet s goal r
  tells_met goal r is = (
    (λ e. All-weaker _ (Attained s.config) attained_told goal (AllPass-from_list_all (attained s.config) goal (sym is ∙ e))),
    (λ m. is ∙ list_all-from_AllPass (attained s.config) goal (All-weaker (Attained s.config) _ told_attained goal m)),
  )
