-- Nothing stands in a survey exactly if its counts are 0. Assumes nothing.
use Rattle.std.proofs.Common.{◌≡◌, ℕ, zero, suc, ◌<◌, Bool, true, false, eqb, None, Some, Option, sym, refl, ap₂, ap, ◌∙◌, inl, inr, arith}
use mathlib.Core.Bool.{false≢true}
use Rattle.std.proofs.Math.Path.{fun_ext}
use Rattle.std.proofs.lemmas.Bool.{and_from, and_parts, both_ways, cases_lt, eq-eqb, eqb-true}
use Rattle.model.specs.declared.pair.Pair.{Pair}
use Rattle.model.specs.Search.{one, sum_below}
use Rattle.model.specs.Config.{Config, empty, stands}
use Rattle.model.specs.Counts.{bindings, instances}
use Rattle.model.proofs.Counting.{bindings_none, instances_none}
use Rattle.model.proofs.Searches.{refuted}
use Rattle.hosts.specs.Survey.{Situation, Lawful, bindings_of, instances_of}
use Rattle.checking.specs.Checking.{TellsEmpty, is_empty}

-- a sum that is 0 has only terms that are 0
sum_zero : (f : ℕ → ℕ) (n : ℕ) → sum_below f n ≡ 0 → (y : ℕ) → y < n → f y ≡ 0
unfolding sum_below
sum_zero f zero h y low = absurd (omega arith)
sum_zero f (suc n) h y low =
    elim (cases_lt y n) [
      | inl lt ↦ sum_zero f n (omega arith) y lt
      | inr ge ↦ let same : y ≡ n = omega arith in ap f same ∙ (omega arith)
    ]

-- what counts as 0 does not pass
one_zero : (b : Bool) → one b ≡ 0 → b ≡ false
one_zero true e = absurd (omega arith)
one_zero false e = refl

-- where nothing is said to stand, nothing stands
nothing_stands : (o : Option Pair) → stands o ≡ false → o ≡ None
nothing_stands None e = refl
nothing_stands (Some h) e = absurd (false≢true (sym e))

-- no instance counted, none that stands below the bound
instances_zero : (n : ℕ) (c : Config) → instances n c ≡ 0 → (z : ℕ) → z < n → c.inst z ≡ None
unfolding instances
instances_zero n c e z low = nothing_stands (c.inst z) (one_zero _ (sum_zero _ n e z low))

-- no binding counted, none that stands below the bounds
bindings_zero : (m n : ℕ) (c : Config) → bindings m n c ≡ 0 → (p x y : ℕ) → p < m → x < n → y < n →
    c.bound p x y ≡ false
unfolding bindings
bindings_zero m n c e p x y lp lx ly = one_zero _ (sum_zero _ n (sum_zero _ n (sum_zero _ m e p lp) x lx) y ly)

-- the same instances and the same bindings as where nothing stands
same_empty : (c : Config) → ((z : ℕ) → c.inst z ≡ None) → ((p x y : ℕ) → c.bound p x y ≡ false) → c ≡ empty
same_empty c e f =
    let of : (ℕ → Option Pair) → (ℕ → ℕ → ℕ → Bool) → Config = λ i b. record { inst = i; bound = b } in
    ap₂ of (fun_ext e) (fun_ext (λ p. fun_ext (λ x. fun_ext (f p x))))

module _ (s : Situation) (law : Lawful s) where
  -- no instance counted, none that stands
  none_stands : instances_of s ≡ 0 → (z : ℕ) → s.config.inst z ≡ None
  none_stands e z =
      elim (cases_lt z 256) [
        | inl low ↦ instances_zero 256 s.config e z low
        | inr out ↦ law.inst z out
      ]

  -- no binding counted, none that stands
  none_bound : bindings_of s ≡ 0 → (p x y : ℕ) → s.config.bound p x y ≡ false
  none_bound e p x y =
      refuted _ (λ b.
      let r = law.bound p x y b in
      both_ways _ (bindings_zero 32 256 s.config e p x y (omega (arith, r.0, law.valid.ports)) r.1 r.2) b)

  -- where the counts are 0 nothing stands
  counted_empty : is_empty s ≡ true → s.config ≡ empty
  counted_empty e =
      let p = and_parts (eqb (instances_of s) 0) (eqb (bindings_of s) 0) e in
      same_empty s.config (none_stands (eqb-true _ _ p.0)) (none_bound (eqb-true _ _ p.1))

-- where nothing stands the counts are 0
empty_counted : (s : Situation) → s.config ≡ empty → is_empty s ≡ true
empty_counted s e =
    let none = ap (instances 256) e ∙ instances_none 256 empty (λ z. refl) in
    let unbound = ap (bindings 32 256) e ∙ bindings_none 32 256 empty (λ p x y. refl) in
    and_from _ _ (eq-eqb _ _ none) (eq-eqb _ _ unbound)

-- so where the counts are told to be 0, that is told exactly if nothing stands
pub tells_empty : (s : Situation) → Lawful s → (r : Bool) → r ≡ is_empty s → TellsEmpty s r
tells_empty s law r is = ((λ e. counted_empty s law (sym is ∙ e)), (λ e. is ∙ empty_counted s e))
