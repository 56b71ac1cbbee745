-- How long the script of a plan is, and which bindings and lines it has. Assumes nothing.
use Rattle.std.proofs.Common.{List, [], ◌∷◌, ◌++◌, ◌≡◌, ℕ, zero, suc, ◌+◌, ◌*◌, ◌<◌, ◌≤◌, ◌==◌, Bool, true, false, not, ◌&&◌, ◌⊎◌, length, All, IsOk, length-append, mul-suc, sym, ap, ◌∙◌, inl, inr, arith}
use Rattle.std.proofs.lemmas.Bool.{and_parts, cases_eq, eqb-true, or_cases}
use Rattle.std.proofs.lemmas.Bool.Decides.{nat_tests}
use Rattle.std.proofs.lemmas.List.Elements.{All-weaker}
use Rattle.model.specs.declared.order.Order.{Order}
use Rattle.model.specs.declared.order.Order.TheVariants.{Create, Bind, Change, Unbind, Delete}
use Rattle.model.specs.Config.{Config}
use Rattle.model.specs.Counts.{bindings}
use Rattle.model.specs.Runs.{after}
use Rattle.model.specs.Universe.{Universe, Valid}
use Rattle.lines.specs.Line.{encoded}
use Rattle.plans.specs.Lists.{lists_below}
use Rattle.plans.specs.Plan.{Plan, Works, binding, build, last_state, order_if, port_orders, script_of, step, walk}
use Rattle.plans.proofs.Building.{holds, walking}
use Rattle.plans.proofs.Counts.{bindings_new}
use Rattle.plans.proofs.Gapless.{built_parts, held_supplied}
use Rattle.plans.proofs.Walking.{InRange, Stage, at_places, script_fits}

-- an order with small numbers has a line
in_line : (u : Universe) (n : ℕ) (o : Order) → Valid u → n ≤ 256 → InRange u n o → IsOk (encoded o)
in_line u n (Create z t) ok le r = let most = ok.types in grind (arith, nat_tests)
in_line u n (Bind b) ok le r = let most = ok.ports in grind (arith, nat_tests)
in_line u n (Change z q) ok le r = grind (arith, nat_tests)
in_line u n (Unbind b) ok le r = let most = ok.ports in grind (arith, nat_tests)
in_line u n (Delete z) ok le r = grind (arith, nat_tests)

-- lists of at most m elements each, end to end
lists_length : {X : Type 0} (f : ℕ → List X) (m n : ℕ) →
    ((i : ℕ) → i < n → length (f i) ≤ m) → length (lists_below f n) ≤ m * n
unfolding lists_below
lists_length f m zero h = omega arith
lists_length f m (suc n) h =
    let before = lists_length f m n (λ i l. h i (omega arith)) in
    let here = h n (omega arith) in
    omega (arith, length-append (lists_below f n) (f n), mul-suc m n)

-- two lists for each number, of one element at most together
both_length : {X : Type 0} (f g : ℕ → List X) (n : ℕ) → ((i : ℕ) → length (f i) + length (g i) ≤ 1) →
    length (lists_below f n) + length (lists_below g n) ≤ n
unfolding lists_below
both_length f g zero h = omega arith
both_length f g (suc n) h =
    let before = both_length f g n h in
    let here = h n in
    omega (arith, length-append (lists_below f n) (f n), length-append (lists_below g n) (g n))

-- a port is bound or unbound, or neither
either_length : (a b : Bool) (o o' : Order) → length (order_if (b && not a) o) + length (order_if (a && not b) o') ≤ 1
either_length true true o o' = omega arith
either_length true false o o' = omega arith
either_length false true o o' = omega arith
either_length false false o o' = omega arith

module _ (u : Universe) (s : Plan) (ok : Valid u) where
  step_length : (z q r : ℕ) → length (step u s z q r) ≤ 33
  unfolding step port_orders
  step_length z q r =
      let few = ok.ports in
      let a = u.requires (s.kind z) q in
      let b = u.requires (s.kind z) r in
      let both = both_length (λ p. order_if (b p && not (a p)) (Bind (binding p (s.supplier p) z)))
      (λ p. order_if (a p && not (b p)) (Unbind (binding p (s.supplier p) z))) u.ports
      (λ p. either_length (a p) (b p) _ _) in
      rw length-append (omega arith)

  walk_length : (z q : ℕ) (rs : List ℕ) → length (walk u s z q rs) ≤ 33 * length rs
  unfolding walk
  walk_length z q [] = omega arith
  walk_length z q (r ∷ rs) =
      let here = step_length z q r in
      let rest = walk_length z r rs in
      omega (arith, length-append (step u s z q r) (walk u s z r rs))

  build_length : (z : ℕ) → length (s.path z) ≤ 7 → length (build u s z) ≤ 232
  unfolding build
  build_length z h = let rest = walk_length z 0 (s.path z) in omega arith

  -- a script whose instances walk over at most 7 states each has at most 232 orders for each instance
  pub script_length : ((z : ℕ) → s.first ≤ z → z < s.first + s.count → length (s.path z) ≤ 7) →
      length (script_of u s) ≤ 232 * s.count
  unfolding script_of
  script_length h =
      lists_length (λ i. build u s (s.first + i)) 232 s.count
      (λ i l. build_length (s.first + i) (h (s.first + i) (omega arith) (omega arith)))

  module _ (w : Works u s) where
    -- each order of a script of at most 256 instances has a line
    pub script_lines : s.first + s.count ≤ 256 → All (λ o. IsOk (encoded o)) (script_of u s)
    script_lines le =
        let n = s.first + s.count in
        All-weaker (InRange u n) (λ o. IsOk (encoded o)) (λ o. in_line u n o ok le) (script_of u s)
        (script_fits u s ok w)

    -- each binding that is not one of the outset's has a provider with a lower number than its requirer
    abbrev pub Lower : Config → Type 0
    Lower c = (p x y : ℕ) → c.bound p x y ≡ true → (s.outset.bound p x y ≡ true) ⊎ (x < y)

    stage_lower : (c : Config) → Stage u s c → Lower c
    unfolding walking
    stage_lower c g p x y e =
        elim (or_cases _ _ (ap (λ c. c.bound p x y) (sym g.is) ∙ e)) [
          | inl old ↦ inl old
          | inr new ↦
              let k = and_parts _ _ new in
              let same = eqb-true x (s.supplier p) k.0 in
              let before = (held_supplied u s ok w g.z g.h g.high g.supplied y p k.1).before in
              inr (omega arith)
        ]

    -- so it is at every place of the script
    pub script_lower : (os ps : List Order) → script_of u s ≡ os ++ ps → Lower (after s.outset os)
    script_lower = at_places u s ok w Lower (λ p x y e. inl e) stage_lower

    -- while the script runs, instances of the plan are bound, at ports of the universe
    held_few : (c : Config) (g : Stage u s c) (y p : ℕ) → holds u s g.z g.h y p ≡ true →
        (p < 32) × (s.first ≤ y) × (y < s.first + s.count)
    held_few c g y p e =
        let most = ok.ports in
        elim (cases_eq y g.z) [
          | inl same ↦ let lt = g.ports p (grind (arith, nat_tests)) in (omega arith, omega arith, omega arith)
          | inr other ↦
              let k = built_parts u s g.z y p (grind (arith, nat_tests)) in
              let lt = (ok.requires (s.kind y) (last_state 0 (s.path y)) p k.2).1 in
              (omega arith, k.0, omega arith)
        ]

    -- at most 32 bindings for each instance stand besides those of the outset
    abbrev pub Few : Config → Type 0
    Few c = (m n : ℕ) → bindings m n c ≤ bindings m n s.outset + 32 * s.count

    stage_few : (c : Config) → Stage u s c → Few c
    unfolding walking
    stage_few c g m n =
        let new = λ (p x y : ℕ). x == s.supplier p && holds u s g.z g.h y p in
        let most = bindings_new c s.outset s.supplier 32 s.first s.count new
        (λ p x y e. or_cases _ _ (ap (λ c. c.bound p x y) (sym g.is) ∙ e))
        (λ p x y e.
        let k = and_parts _ _ e in
        let l = held_few c g y p k.1 in
        (l.0, eqb-true x (s.supplier p) k.0, l.1, l.2)) m n in
        omega arith

    -- so it is at every place of the script
    pub script_bindings : (os ps : List Order) → script_of u s ≡ os ++ ps → Few (after s.outset os)
    script_bindings = at_places u s ok w Few (λ m n. omega arith) stage_few
