-- The script of a working plan is a run, and leads from the outset to all instances built. Assumes nothing.
use Rattle.std.proofs.Common.{List, [], ◌∷◌, ◌++◌, ◌≡◌, ℕ, suc, ◌+◌, ◌<◌, ◌≤◌, Bool, true, false, not, ◌&&◌, ◌||◌, All, Some, None, Option, sym, refl, ap, ◌∙◌, inl, inr, subst, arith}
use Rattle.std.proofs.lemmas.Bool.{and_parts, not-true, or_cases, or_left}
use Rattle.std.proofs.lemmas.Bool.Decides.{nat_tests}
use Rattle.model.specs.declared.binding.Binding.{Binding}
use Rattle.model.specs.declared.pair.Pair.{Pair}
use Rattle.model.specs.declared.order.Order.{Order}
use Rattle.model.specs.declared.order.Order.TheVariants.{Create, Bind, Change, Unbind, Delete}
use Rattle.model.specs.Config.{Config, ever_provides, ever_requires, provided}
use Rattle.model.specs.Gaps.{GapFree}
use Rattle.model.specs.Orders.{Legal, result_of}
use Rattle.model.specs.Runs.{after, RunsFrom}
use Rattle.model.specs.Universe.{Universe, Valid}
use Rattle.model.proofs.Searches.{any_found}
use Rattle.plans.specs.Plan.{Passable, Plan, Supplied, Works, binding, build, last_state, order_if, port_orders, script_of, step, walk}
use Rattle.plans.proofs.Building.{bind_result, change_result, create_result, done, done_first, done_more, unbind_result, walking, walking_at, walking_below}
use Rattle.plans.proofs.Gapless.{AllSupplied, initial_supplied, walking_free}
use Rattle.plans.proofs.Leading.{Along, Leads, along_all, along_place, along_runs, leads_at, leads_below, leads_if, leads_none, leads_one, leads_then}
use Rattle.plans.proofs.Sets.{gained, gained_lost, gained_more, gained_none, gained_same, lost, lost_all, lost_more, lost_same}

-- while the script runs: the instances below z are built, and z stands in the state q, bound at the ports of h; these
-- are supplied, and those that q requires are among them
pub record Stage (u : Universe) (s : Plan) (c : Config) : Type 0 where
  pub z : ℕ
  pub q : ℕ
  pub h : ℕ → Bool
  pub low : s.first ≤ z
  pub high : z < s.first + s.count
  pub has : (p : ℕ) → u.requires (s.kind z) q p ≡ true → h p ≡ true
  pub supplied : AllSupplied u s z h
  pub ports : (p : ℕ) → h p ≡ true → p < u.ports
  pub is : c ≡ walking u s z q h

-- the numbers of an order are those of the universe, and of instances below n
abbrev pub InRange : Universe → ℕ → Order → Type 0
InRange u n (Create z t) = (z < n) × (t < u.types)
InRange u n (Bind b) = (b.port < u.ports) × (b.provider < n) × (b.requirer < n)
InRange u n (Change z q) = (z < n) × (q < 8)
InRange u n (Unbind b) = (b.port < u.ports) × (b.provider < n) × (b.requirer < n)
InRange u n (Delete z) = z < n

-- what a script's order is where it is given
abbrev pub Given : Universe → Plan → Config → Order → Type 0
Given u s c o = Legal u c o × InRange u (s.first + s.count) o × Stage u s (result_of o c)

module _ (u : Universe) (s : Plan) (ok : Valid u) (w : Works u s) where
  -- what is provided is provided in some state
  ever : (p : ℕ) (o : Option Pair) → provided u p o ≡ true → ever_provides u p o ≡ true
  ever p None e = e
  ever p (Some h) e =
      any_found (λ q. u.provides h.kind q p) h.state (u.states h.kind) (ok.provides h.kind h.state p e).0.1 e

  -- one order of the script
  turn : {c d : Config} {o : Order} → Legal u c o → InRange u (s.first + s.count) o → result_of o c ≡ d → Stage u s d →
      Leads (Given u s) c (o ∷ []) d
  turn l n e g = leads_one (l, n, subst (Stage u s) (sym e) g) e

  module _ (z : ℕ) (low : s.first ≤ z) (high : z < s.first + s.count) where
    -- the ports that z requires in a state
    abbrev needs : ℕ → ℕ → Bool
    needs q = u.requires (s.kind z) q

    needs_ports : (q p : ℕ) → needs q p ≡ true → p < u.ports
    needs_ports q p e = (ok.requires (s.kind z) q p e).1

    -- the binding of z at a port
    abbrev link : ℕ → Binding
    link p = binding p (s.supplier p) z

    link_fits : (q p : ℕ) → needs q p ≡ true → Supplied u s z p → InRange u (s.first + s.count) (Bind (link p))
    link_fits q p e f = let before = f.before in (needs_ports q p e, omega arith, high)

    create_legal : Legal u (done u s z) (Create z (s.kind z))
    unfolding done
    create_legal = (grind (arith, nat_tests), w.kind z low high)

    module _ (q r : ℕ) (h : ℕ → Bool) where
      bind_legal : (p : ℕ) → needs r p ≡ true → Supplied u s z p → h p ≡ false →
          Legal u (walking u s z q h) (Bind (link p))
      unfolding walking
      bind_legal p e f out =
          let before = f.before in
          let same = walking_below u s z q h (s.supplier p) z before (omega arith) in
          record {
            apart = λ e. absurd (omega arith);
            provider = ever p _ (ap (provided u p) same ∙ f.provides);
            requirer =
                ap (ever_requires u p) (walking_at u s z q h)
                ∙ any_found (λ q. needs q p) r (u.states (s.kind z)) (ok.requires (s.kind z) r p e).0.1 e;
            new = let b = w.bound p (s.supplier p) z in grind (arith, nat_tests);
          }

      unbind_legal : (p : ℕ) → h p ≡ true → Legal u (walking u s z q h) (Unbind (link p))
      unfolding walking
      unbind_legal p e = grind (arith, nat_tests)

      change_legal : u.next (s.kind z) q r ≡ true → Legal u (walking u s z q h) (Change z r)
      change_legal e = rw (walking_at u s z q h) e

    -- a step from the state q to the state r, where all that they require is supplied
    module _ (q r : ℕ) (f : AllSupplied u s z (needs q)) (f' : AllSupplied u s z (needs r)) where
      -- z is in the state t, and bound at its ports, and at none but those of the two states
      stage : (t : ℕ) (h : ℕ → Bool) → ((p : ℕ) → needs t p ≡ true → h p ≡ true) →
          ((p : ℕ) → h p ≡ true → (needs q p || needs r p) ≡ true) → Stage u s (walking u s z t h)
      stage t h has only = record {
        z = z;
        q = t;
        h = h;
        low = low;
        high = high;
        has = has;
        supplied = λ p e. elim (or_cases _ _ (only p e)) [ inl a ↦ f p a | inr b ↦ f' p b ];
        ports = λ p e. elim (or_cases _ _ (only p e)) [ inl a ↦ needs_ports q p a | inr b ↦ needs_ports r p b ];
        is = refl;
      }

      -- what z is bound at before and after the change, when the ports below i are dealt with
      abbrev more : ℕ → ℕ → Bool
      more i = gained (needs q) (needs r) i

      abbrev less : ℕ → ℕ → Bool
      less i = lost (needs q) (needs r) i

      bind_turn : (i : ℕ) → Leads (Given u s) (walking u s z q (more i))
          (order_if (needs r i && not (needs q i)) (Bind (link i))) (walking u s z q (more (suc i)))
      bind_turn i =
          leads_if (needs r i && not (needs q i))
          (λ e.
          let k = and_parts (needs r i) _ e in
          turn (bind_legal q r (more i) i k.0 (f' i k.0) (grind (arith, nat_tests))) (link_fits r i k.0 (f' i k.0))
          (bind_result u s z q (more i) i ∙ ap (walking u s z q) (sym (gained_more (needs q) (needs r) i k.0)))
          (stage q (more (suc i)) (λ p e. grind (arith, nat_tests)) (λ p e. grind (arith, nat_tests))))
          (λ e. ap (walking u s z q) (sym (gained_same (needs q) (needs r) i e)))

      unbind_turn : (i : ℕ) → Leads (Given u s) (walking u s z r (less i))
          (order_if (needs q i && not (needs r i)) (Unbind (link i))) (walking u s z r (less (suc i)))
      unbind_turn i =
          leads_if (needs q i && not (needs r i))
          (λ e.
          let k = and_parts (needs q i) _ e in
          turn (unbind_legal r r (less i) i (grind (arith, nat_tests))) (link_fits q i k.0 (f i k.0))
          (unbind_result u s z r (less i) w low i
          ∙ ap (walking u s z r) (sym (lost_more (needs q) (needs r) i (not-true _ k.1))))
          (stage r (less (suc i)) (λ p e. grind (arith, nat_tests)) (λ p e. grind (arith, nat_tests))))
          (λ e. ap (walking u s z r) (sym (lost_same (needs q) (needs r) i e)))

      change_turn : u.next (s.kind z) q r ≡ true →
          Leads (Given u s) (walking u s z q (less 0)) (Change z r ∷ []) (walking u s z r (less 0))
      change_turn go =
          let n = ok.next (s.kind z) q r go in
          let m = ok.states (s.kind z) n.0.0 in
          turn (change_legal q r (less 0) go) (high, omega arith) (change_result u s z q (less 0) r)
          (stage r (less 0) (λ p e. grind (arith, nat_tests)) (λ p e. grind (arith, nat_tests)))

      step_leads : u.next (s.kind z) q r ≡ true →
          Leads (Given u s) (walking u s z q (needs q)) (step u s z q r) (walking u s z r (needs r))
      unfolding step port_orders
      step_leads go =
          leads_then _
          (leads_at (ap (walking u s z q) (gained_none (needs q) (needs r)))
          (ap (walking u s z q) (gained_lost (needs q) (needs r) u.ports (needs_ports r)))
          (leads_below (λ i. walking u s z q (more i)) _ u.ports (λ i l. bind_turn i)))
          (leads_then _ (change_turn go)
          (leads_at refl (ap (walking u s z r) (lost_all (needs q) (needs r) u.ports (needs_ports q)))
          (leads_below (λ i. walking u s z r (less i)) _ u.ports (λ i l. unbind_turn i))))

    walk_leads : (q : ℕ) (rs : List ℕ) → AllSupplied u s z (needs q) → Passable u s z q rs →
        let t = last_state q rs in
        Leads (Given u s) (walking u s z q (needs q)) (walk u s z q rs) (walking u s z t (needs t))
    unfolding walk last_state Passable
    walk_leads q [] f h = leads_none
    walk_leads q (r ∷ rs) f h = leads_then _ (step_leads q r f h.1 h.0) (walk_leads r rs h.1 h.2)

    build_leads : Leads (Given u s) (done u s z) (build u s z) (done u s (suc z))
    unfolding build
    build_leads =
        let f = initial_supplied u s ok w z in
        leads_then _
        (turn create_legal (high, w.kind z low high) (create_result u s ok z)
        (stage 0 0 f f 0 (needs 0) (λ p e. e) (λ p e. or_left _ _ e)))
        (leads_at refl (done_more u s z low) (walk_leads 0 (s.path z) f (w.path z low high)))

  -- the script leads from the outset to all instances built
  script_leads : Leads (Given u s) s.outset (script_of u s) (done u s (s.first + s.count))
  unfolding script_of
  script_leads =
      let start : s.first + 0 ≡ s.first = omega arith in
      leads_at (ap (done u s) start ∙ done_first u s w) refl
      (leads_below (λ i. done u s (s.first + i)) (λ i. build u s (s.first + i)) s.count
      (λ i l.
      let next : suc (s.first + i) ≡ s.first + suc i = omega arith in
      leads_at refl (ap (done u s) next) (build_leads (s.first + i) (omega arith) (omega arith))))

  -- no stage has a gap
  stage_free : (c : Config) → Stage u s c → GapFree u c
  stage_free c g = subst (GapFree u) (sym g.is) (walking_free u s ok w g.z g.q g.h g.low g.high g.has g.supplied)

  -- the script is a run
  pub script_runs : RunsFrom u s.outset (script_of u s)
  script_runs =
      along_runs (Given u s) u (λ c o k. (k.0, stage_free (result_of o c) k.2)) s.outset (script_of u s)
      script_leads.along

  -- and ends with all instances built
  pub script_ends : after s.outset (script_of u s) ≡ done u s (s.first + s.count)
  script_ends = script_leads.ends

  -- what holds at the outset, and at every stage, holds at every place of the script
  pub at_places : (P : Config → Type 0) → P s.outset → ((c : Config) → Stage u s c → P c) →
      (os ps : List Order) → script_of u s ≡ os ++ ps → P (after s.outset os)
  at_places P k h os ps e =
      along_place (Given u s) P (λ c o g. h (result_of o c) g.2) s.outset os ps k
      (subst (Along (Given u s) s.outset) e script_leads.along)

  -- each order of the script has its numbers from the universe and the plan
  pub script_fits : All (InRange u (s.first + s.count)) (script_of u s)
  script_fits =
      along_all (Given u s) (InRange u (s.first + s.count)) (λ c o g. g.1) s.outset (script_of u s) script_leads.along
