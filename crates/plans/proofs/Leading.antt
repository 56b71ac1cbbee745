-- Orders end to end: each in a relation to where it is given, and where they lead. Assumes nothing.
use Rattle.std.proofs.Common.{List, [], ◌∷◌, ◌++◌, ◌≡◌, ℕ, zero, suc, ◌<◌, Bool, true, false, All, sym, refl, subst, arith}
use Rattle.std.proofs.lemmas.List.Elements.{All-cons, All-nil}
use Rattle.model.specs.declared.order.Order.{Order}
use Rattle.model.specs.Universe.{Universe}
use Rattle.model.specs.Config.{Config}
use Rattle.model.specs.Gaps.{GapFree}
use Rattle.model.specs.Orders.{Legal, result_of}
use Rattle.model.specs.Runs.{after, RunsFrom}
use Rattle.plans.specs.Lists.{lists_below}
use Rattle.plans.specs.Plan.{order_if}

-- each order is in the relation R to the configuration in which it is given
unfoldable pub Along : (Config → Order → Type 0) → Config → List Order → Type 0
Along R c [] = Unit {0}
Along R c (o ∷ os) = R c o × Along R (result_of o c) os

-- and the orders lead to d
pub record Leads (R : Config → Order → Type 0) (c : Config) (os : List Order) (d : Config) : Type 0 where
  pub along : Along R c os
  pub ends : after c os ≡ d

module _ {R : Config → Order → Type 0} where
  -- no order leads to where it begins
  pub leads_none : {c : Config} → Leads R c [] c
  unfolding after Along
  leads_none = record { along = tt; ends = refl }

  -- one order leads to what it makes
  pub leads_one : {c d : Config} {o : Order} → R c o → result_of o c ≡ d → Leads R c (o ∷ []) d
  unfolding after Along
  leads_one r e = record { along = (r, tt); ends = e }

  -- orders lead on from where others lead
  pub leads_then : (os : List Order) {c d e : Config} {ps : List Order} →
      Leads R c os d → Leads R d ps e → Leads R c (os ++ ps) e
  unfolding after Along
  leads_then [] {e = e} {ps = ps} h k = subst (λ x. Leads R x ps e) (sym h.ends) k
  leads_then (o ∷ os) h k =
      let rest = leads_then os (record { along = h.along.1; ends = h.ends }) k in
      record { along = (h.along.0, rest.along); ends = rest.ends }

  -- the lists of the numbers below n lead as far as each leads to where the next begins
  pub leads_below : (c : ℕ → Config) (f : ℕ → List Order) (n : ℕ) →
      ((i : ℕ) → i < n → Leads R (c i) (f i) (c (suc i))) → Leads R (c 0) (lists_below f n) (c n)
  unfolding lists_below
  leads_below c f zero h = leads_none
  leads_below c f (suc n) h =
      leads_then (lists_below f n) (leads_below c f n (λ i l. h i (omega arith))) (h n (omega arith))

  -- the ends may be written otherwise
  pub leads_at : {c c' d d' : Config} {os : List Order} → c ≡ c' → d ≡ d' → Leads R c os d → Leads R c' os d'
  leads_at {c} {c'} {d} {d'} {os} p q h = subst (λ x. Leads R x os d') p (subst (λ x. Leads R c os x) q h)

  -- an order that is given if the test holds
  pub leads_if : {c d : Config} {o : Order} (b : Bool) →
      (b ≡ true → Leads R c (o ∷ []) d) → (b ≡ false → c ≡ d) → Leads R c (order_if b o) d
  leads_if true h k = h refl
  leads_if false h k = leads_at refl (k refl) leads_none

module _ (R : Config → Order → Type 0) where
  -- what holds at the outset, and after every order, holds at every place
  pub along_place : (P : Config → Type 0) → ((c : Config) (o : Order) → R c o → P (result_of o c)) →
      (c : Config) (os ps : List Order) → P c → Along R c (os ++ ps) → P (after c os)
  unfolding after Along
  along_place P h c [] ps k a = k
  along_place P h c (o ∷ os) ps k a = along_place P h (result_of o c) os ps (h c o a.0) a.1

  -- what the relation tells of the order alone holds of each order
  pub along_all : (P : Order → Type 0) → ((c : Config) (o : Order) → R c o → P o) →
      (c : Config) (os : List Order) → Along R c os → All P os
  unfolding Along
  along_all P h c [] a = All-nil P
  along_all P h c (o ∷ os) a = All-cons P o os (h c o a.0) (along_all P h (result_of o c) os a.1)

  -- orders that are legal and leave no gap are a run
  pub along_runs : (u : Universe) → ((c : Config) (o : Order) → R c o → Legal u c o × GapFree u (result_of o c)) →
      (c : Config) (os : List Order) → Along R c os → RunsFrom u c os
  unfolding Along RunsFrom
  along_runs u h c [] a = tt
  along_runs u h c (o ∷ os) a =
      let k = h c o a.0 in (k.0, k.1, along_runs u h (result_of o c) os a.1)
