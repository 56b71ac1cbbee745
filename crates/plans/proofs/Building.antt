-- What stands while the instances of a plan are built, and what each order of the script makes of it. Assumes nothing.
use Rattle.std.proofs.Common.{◌≡◌, ℕ, suc, ◌<◌, ◌≤◌, Bool, true, false, not, ◌&&◌, ◌||◌, nat_lt, ◌==◌, Some, Option, refl, ap₂, arith}
use Rattle.std.proofs.Math.Path.{fun_ext}
use Rattle.std.proofs.lemmas.Bool.Decides.{nat_tests}
use Rattle.model.specs.declared.pair.Pair.{Pair}
use Rattle.model.specs.declared.order.Order.TheVariants.{Create, Bind, Change, Unbind}
use Rattle.model.specs.Config.{Config, pair, required}
use Rattle.model.proofs.Results.{put_at}
use Rattle.model.specs.Orders.{put, result_of}
use Rattle.model.specs.Universe.{Universe, Valid}
use Rattle.plans.specs.Plan.{Plan, Works, binding, built, last_state}

-- the ports at which an instance is bound once the instances below n are built
abbrev pub built_holds : Universe → Plan → ℕ → ℕ → ℕ → Bool
built_holds u s n y p = not (nat_lt y s.first) && required u p (built s n y)

-- the instances, with the bindings of the outset, and each instance y bound at the ports of held y to their suppliers
abbrev pub standing : Plan → (ℕ → Option Pair) → (ℕ → ℕ → Bool) → Config
standing s inst held =
    record { inst = inst; bound = λ p x y. s.outset.bound p x y || (x == s.supplier p && held y p) }

-- the instances below n are built
unfoldable pub done : Universe → Plan → ℕ → Config
done u s n = standing s (built s n) (built_holds u s n)

-- the same while z is built, and bound at the ports of h
abbrev pub holds : Universe → Plan → ℕ → (ℕ → Bool) → ℕ → ℕ → Bool
holds u s z h = put (built_holds u s z) z h

-- the instances below z are built, and z stands in the state q, bound at the ports of h
unfoldable pub walking : Universe → Plan → ℕ → ℕ → (ℕ → Bool) → Config
walking u s z q h = standing s (put (built s z) z (Some (pair (s.kind z) q))) (holds u s z h)

-- the same instances and the same bindings
pub config_same : (c d : Config) →
    ((z : ℕ) → c.inst z ≡ d.inst z) → ((p x y : ℕ) → c.bound p x y ≡ d.bound p x y) → c ≡ d
config_same c d e f =
    let of : (ℕ → Option Pair) → (ℕ → ℕ → ℕ → Bool) → Config = λ i b. record { inst = i; bound = b } in
    ap₂ of (fun_ext e) (fun_ext (λ p. fun_ext (λ x. fun_ext (f p x))))

module _ (u : Universe) (s : Plan) where
  -- at the outset nothing is built
  pub done_first : Works u s → done u s s.first ≡ s.outset
  unfolding done
  done_first w = config_same _ _ (λ y. let e = w.inst y in grind (arith, nat_tests)) (λ p x y. grind (arith, nat_tests))

  -- z is created
  pub create_result : Valid u → (z : ℕ) →
      result_of (Create z (s.kind z)) (done u s z) ≡ walking u s z 0 (u.requires (s.kind z) 0)
  unfolding result_of walking done
  create_result ok z =
      config_same _ _ (λ y. refl) (λ p x y. let e = ok.initial (s.kind z) p in grind (arith, nat_tests))

  -- z is built when it is in its last state, and bound at just the ports that this state requires
  pub done_more : (z : ℕ) → s.first ≤ z →
      let q = last_state 0 (s.path z) in walking u s z q (u.requires (s.kind z) q) ≡ done u s (suc z)
  unfolding walking done
  done_more z le = config_same _ _ (λ y. grind (arith, nat_tests)) (λ p x y. grind (arith, nat_tests))

  -- while z is built
  module _ (z q : ℕ) (h : ℕ → Bool) where
    -- it stands in its state
    pub walking_at : (walking u s z q h).inst z ≡ Some (pair (s.kind z) q)
    unfolding walking
    walking_at = put_at (built s z) z _

    -- and below it stands what stood when the instances below some y were built
    pub walking_below : (x y : ℕ) → x < y → y ≤ z → (walking u s z q h).inst x ≡ built s y x
    unfolding walking
    walking_below x y lt le = grind (arith, nat_tests)

    -- a change moves it on
    pub change_result : (r : ℕ) → result_of (Change z r) (walking u s z q h) ≡ walking u s z r h
    unfolding result_of walking
    change_result r = config_same _ _ (λ y. grind (arith, nat_tests)) (λ p x y. refl)

    -- a bind adds a port
    pub bind_result : (p : ℕ) →
        result_of (Bind (binding p (s.supplier p) z)) (walking u s z q h) ≡ walking u s z q (put h p true)
    unfolding result_of walking
    bind_result p = config_same _ _ (λ y. refl) (λ p' x y. grind (arith, nat_tests))

    -- an unbind takes one away
    pub unbind_result : Works u s → s.first ≤ z → (p : ℕ) →
        result_of (Unbind (binding p (s.supplier p) z)) (walking u s z q h) ≡ walking u s z q (put h p false)
    unfolding result_of walking
    unbind_result w le p =
        config_same _ _ (λ y. refl) (λ p' x y. let e = w.bound p' x y in grind (arith, nat_tests))
