-- In a run every instance stands in a listed pair. Assumes nothing.
use Rattle.std.proofs.Common.{List, [], ◌∷◌, ◌≡◌, ℕ, true, eqb, ◌≢◌, Some, None, Option, refl, sym, ap, ◌∙◌, inl, inr, arith}
use Rattle.std.specs.List.{list_any}
use Rattle.std.proofs.lemmas.Bool.{and_from, cases_Bool, cases_eq, eq-eqb, both_ways}
use Rattle.model.specs.declared.pair.Pair.{Pair}
use Rattle.model.specs.declared.order.Order.{Order}
use Rattle.model.specs.declared.order.Order.TheVariants.{Create, Bind, Change, Unbind, Delete}
use Rattle.model.specs.Universe.{Universe, Valid}
use Rattle.model.specs.Config.{Config, WellFormed, empty, pair, provided}
use Rattle.model.specs.Gaps.{GapFree}
use Rattle.model.specs.Orders.{Legal, result_of}
use Rattle.model.specs.Runs.{Run, RunsFrom, after}
use Rattle.model.proofs.Formed.{empty_law, formed_law}
use Rattle.model.proofs.Results.{bind_inst, change_bound, change_off, change_to, create_at, create_off, delete_at, delete_off, passes_some, unbind_inst}
use Rattle.plans.specs.Closing.{closing, follows, provides}
use Rattle.plans.specs.Lists.{listed}
use Rattle.plans.proofs.Closed.{Closed}
use Rattle.plans.proofs.Closings.{closing_closed}
use Rattle.plans.proofs.Ranks.{any_in}

-- what stands under one number is one pair
one_pair : (o : Option Pair) (g h : Pair) → o ≡ Some g → o ≡ Some h → g ≡ h
one_pair o g h p q = cc

none_stands : (o : Option Pair) (h : Pair) → o ≡ None → o ≡ Some h → ⊥
none_stands o h p q = let z : ◌≡◌ {A = ℕ} 0 1 = cc in omega arith

module _ (u : Universe) (l : List Pair) where
  -- what stands under z is listed
  abbrev pub ListedAt : Config → ℕ → Type 0
  ListedAt c z = (h : Pair) → c.inst z ≡ Some h → listed l h ≡ true

  -- every instance stands in a listed pair
  abbrev pub Within : Config → Type 0
  Within c = (z : ℕ) → ListedAt c z

  -- what stands at z is listed, if the pair that stands there is
  listed_at_pair : (c : Config) (z : ℕ) (g : Pair) → c.inst z ≡ Some g → listed l g ≡ true → ListedAt c z
  listed_at_pair c z g at e h stands = ap (listed l) (sym (one_pair (c.inst z) g h at stands)) ∙ e

  -- a configuration that differs at z alone is within the list, if what stands at z is listed
  within_but : (c d : Config) (z : ℕ) → Within c → ((y : ℕ) → y ≢ z → d.inst y ≡ c.inst y) → ListedAt d z → Within d
  within_but c d z i off at y h e =
      elim (cases_eq y z) [
        | inl q ↦ at h (ap d.inst (sym q) ∙ e)
        | inr ne ↦ i y h (sym (off y ne) ∙ e)
      ]

  -- a port that some instance provides is provided by a listed pair
  provider_listed : (c : Config) → Within c → (p x : ℕ) → provided u p (c.inst x) ≡ true →
      list_any (provides u p) l ≡ true
  provider_listed c i p x e =
      let s = passes_some (c.inst x) _ e in
      any_in l (provides u p) s.0 (i x s.0 s.1) s.2

  module _ (ok : Valid u) (closed : Closed u l) where
    -- the pair that a change leads to is listed, if the change leaves no gap: each port that the pair requires is bound
    -- from an instance other than the one that changes
    changed_listed : (c : Config) (z q : ℕ) (g : Pair) → WellFormed u c → Within c → c.inst z ≡ Some g →
        u.next g.kind g.state q ≡ true → GapFree u (result_of (Change z q) c) → listed l (pair g.kind q) ≡ true
    changed_listed c z q g wf i at next free =
        let n = ok.next g.kind g.state q next in
        closed.full (pair g.kind q) (n.0.0, n.1)
        (any_in l (follows u (pair g.kind q)) g (i z g at)
        (and_from (eqb g.kind g.kind) _ (eq-eqb g.kind g.kind refl) next))
        (λ p r. elim (cases_Bool (list_any (provides u p) l)) [
          | inl there ↦ there
          | inr none ↦ absurd (free z p (record {
            requires = rw (change_to c z q g at) r;
            uncovered = λ x b v. both_ways _ none (covering p x b v);
          }))
        ])
      where
        covering : (p x : ℕ) → (result_of (Change z q) c).bound p x z ≡ true →
            provided u p ((result_of (Change z q) c).inst x) ≡ true → list_any (provides u p) l ≡ true
        covering p x b v =
            let apart = wf.apart p x z (sym (change_bound c z q p x z) ∙ b) in
            provider_listed c i p x (ap (provided u p) (sym (change_off c z q x apart)) ∙ v)

    -- a legal order that leaves no gap keeps the instances within the list
    pub order_within : (c : Config) (o : Order) → WellFormed u c → Within c → Legal u c o → GapFree u (result_of o c) →
        Within (result_of o c)
    order_within c (Create z t) wf i legal free =
        within_but c (result_of (Create z t) c) z i (create_off c z t)
        (listed_at_pair (result_of (Create z t) c) z (pair t 0) (create_at c z t) (closed.initial t legal.1))
    order_within c (Bind j) wf i legal free = λ z h e. i z h (sym (bind_inst c j z) ∙ e)
    order_within c (Change z q) wf i legal free =
        let s = passes_some (c.inst z) _ legal in
        within_but c (result_of (Change z q) c) z i (change_off c z q)
        (listed_at_pair (result_of (Change z q) c) z (pair s.0.kind q) (change_to c z q s.0 s.1)
        (changed_listed c z q s.0 wf i s.1 s.2 free))
    order_within c (Unbind j) wf i legal free = λ z h e. i z h (sym (unbind_inst c j z) ∙ e)
    order_within c (Delete z) wf i legal free =
        within_but c (result_of (Delete z) c) z i (delete_off c z)
        (λ h e. absurd (none_stands _ h (delete_at c z) e))

    -- and so does a run
    pub run_within : (c : Config) (os : List Order) → WellFormed u c → Within c → RunsFrom u c os → Within (after c os)
    unfolding after RunsFrom
    run_within c [] wf i r = i
    run_within c (o ∷ os) wf i r =
        run_within (result_of o c) os (formed_law u c o ok wf r.0) (order_within c o wf i r.0 r.1) r.2

    -- a run begins with no instance
    pub none_beyond_list : (os : List Order) → Run u os → Within (after empty os)
    none_beyond_list os r = run_within empty os (empty_law u).0 (λ z h e. absurd (none_stands None h refl e)) r

-- nothing beyond the closing order ever stands
pub none_beyond : (u : Universe) → Valid u → (os : List Order) → Run u os → (z : ℕ) (h : Pair) →
    (after empty os).inst z ≡ Some h → listed (closing u) h ≡ true
none_beyond u ok os r = none_beyond_list u (closing u) ok (closing_closed u ok) os r
