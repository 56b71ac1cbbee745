-- The laws of the closing order and of scripts. Assumes nothing.
use Rattle.std.proofs.Common.{List, [], ◌∷◌, ◌++◌, ◌≡◌, ℕ, ◌<◌, ◌≤◌, true, length, refl, ap, ◌∙◌, inl, inr, arith}
use mathlib.Core.Bool.{false≢true}
use Rattle.std.specs.List.{All}
use Rattle.model.specs.declared.pair.Pair.{Pair}
use Rattle.model.specs.declared.order.Order.{Order}
use Rattle.model.specs.Config.{empty}
use Rattle.model.specs.Counts.{bindings}
use Rattle.model.specs.Runs.{Run, after}
use Rattle.model.specs.Universe.{Universe, Valid}
use Rattle.plans.specs.Lists.{listed}
use Rattle.plans.specs.Closing.{closing}
use Rattle.plans.specs.Plan.{Works}
use Rattle.plans.specs.Goals.{Met, Reaches}
use Rattle.plans.specs.Script.{needed_pairs, plan_for, script}
use Rattle.plans.specs.Laws.{Attainable, ClosingLaw, EndLaw, InReach, LinesLaw, LowerLaw, NeededLaw, PlanLaw, ReachLaw, SizeLaw, SupplierLaw, WorkingLaw, deployed}
use Rattle.plans.proofs.Closed.{Closed}
use Rattle.plans.proofs.Ranks.{listed_at}
use Rattle.std.proofs.lemmas.List.Sums.{list_all-from_AllPass}
use Rattle.std.proofs.lemmas.Bool.{and_from}
use Rattle.std.specs.Result.{IsOk}
use Rattle.lines.specs.Line.{encoded}
use Rattle.model.proofs.Counting.{bindings_none}
use Rattle.plans.proofs.Closings.{closing_closed}
use Rattle.plans.proofs.Beyond.{none_beyond}
use Rattle.plans.proofs.Building.{config_same, done}
use Rattle.plans.proofs.Walking.{script_ends, script_runs}
use Rattle.plans.proofs.Measures.{script_bindings, script_length, script_lines, script_lower}
use Rattle.plans.proofs.Paths.{path_short}
use Rattle.plans.proofs.Needing.{Sufficient, needed_few, needed_goal, needed_law, needed_sufficient, serves_before}
use Rattle.plans.proofs.Planned.{plan_bindings, plan_instances, plan_meets, plan_works}

-- the plan for the needed pairs
module _ (u : Universe) (goal : List Pair) (ok : Valid u) where
  closed : Closed u (closing u)
  closed = closing_closed u ok

  sufficient : Sufficient u (closing u) (needed_pairs u goal)
  sufficient = needed_sufficient u (closing u) closed goal ok

  pub works : Works u (plan_for u (closing u) (needed_pairs u goal))
  works = plan_works u (closing u) closed (needed_pairs u goal) sufficient

  pub script_is_run : Run u (script u goal)
  unfolding script
  script_is_run = script_runs u _ ok works

  pub end : after empty (script u goal) ≡ deployed u goal
  unfolding script done
  end =
      script_ends u _ ok works
      ∙ config_same _ _ (plan_instances u (closing u) closed (needed_pairs u goal) sufficient)
      (plan_bindings u (closing u) closed (needed_pairs u goal) sufficient)

  pub meets : InReach u goal → Met goal (after empty (script u goal))
  meets reach =
      plan_meets u (closing u) closed (needed_pairs u goal) sufficient goal (needed_goal u (closing u) goal reach)
      (after empty (script u goal)) (λ z. ap (λ c. c.inst z) end)

  pub lower : (os ps : List Order) → script u goal ≡ os ++ ps → (p x y : ℕ) → (after empty os).bound p x y ≡ true → x < y
  unfolding script
  lower os ps e p x y b =
      elim (script_lower u _ ok works os ps e p x y b) [ inl stood ↦ absurd (false≢true stood) | inr low ↦ low ]

  pub only : (os : List Order) → Reaches u os goal → InReach u goal
  only os (run, met) =
      list_all-from_AllPass (listed (closing u)) goal (λ k d low. let at = met k d low in none_beyond u ok os run at.0 _ at.1)

  module _ (few : length goal ≤ 16) where
    instances : length (needed_pairs u goal) ≤ 48
    instances = let ports = ok.ports in omega (arith, needed_few u (closing u) closed goal)

    length_most : length (script u goal) ≤ 11136
    unfolding script
    length_most =
        let each = script_length u (plan_for u (closing u) (needed_pairs u goal)) ok
        (λ z _ low. path_short u (closing u) closed _ (sufficient.sub _ (listed_at (needed_pairs u goal) z (omega arith))) ok) in
        omega (arith, instances)

    bindings_most : (os ps : List Order) → script u goal ≡ os ++ ps → (m n : ℕ) → bindings m n (after empty os) ≤ 1536
    unfolding script
    bindings_most os ps e m n =
        let most = script_bindings u _ ok works os ps e m n in
        omega (arith, instances, bindings_none m n empty (λ p x y. refl))

    pub size : (length (needed_pairs u goal) ≤ 48) × (length (script u goal) ≤ 11136) ×
        ((os ps : List Order) → script u goal ≡ os ++ ps → (m n : ℕ) → bindings m n (after empty os) ≤ 1536)
    size = (instances, length_most, bindings_most)

    pub lines : All (λ o. IsOk (encoded o)) (script u goal)
    unfolding script
    lines = script_lines u _ ok works (omega (arith, instances))

-- a pair that is listed is attained by the script for it alone
attained : (u : Universe) (ok : Valid u) (h : Pair) → listed (closing u) h ≡ true → Attainable u h
attained u ok h e =
    (script u (h ∷ []), script_is_run u (h ∷ []) ok, meets u (h ∷ []) ok (and_from _ true e refl) 0 h (omega arith))

pub working_law : WorkingLaw
working_law u s ok w = script_runs u s ok w

pub plan_law : PlanLaw
plan_law u goal ok = works u goal ok

pub closing_law : ClosingLaw
closing_law u ok h = (attained u ok h, λ a. none_beyond u ok a.0 a.1 a.2.0 h a.2.1)

pub reach_law : ReachLaw
reach_law u goal ok = (λ reach. (script_is_run u goal ok, meets u goal ok reach), only u goal ok)

pub supplier_law : SupplierLaw
supplier_law u g h ok e s = serves_before u (closing u) (closing_closed u ok) g h e s

pub needed_pairs_law : NeededLaw
needed_pairs_law u goal ok reach = needed_law u (closing_closed u ok) goal reach

pub end_law : EndLaw
end_law u goal ok = end u goal ok

pub lower_law : LowerLaw
lower_law u goal ok = lower u goal ok

pub size_law : SizeLaw
size_law u goal ok few = size u goal ok few

pub lines_law : LinesLaw
lines_law u goal ok few = lines u goal ok few
