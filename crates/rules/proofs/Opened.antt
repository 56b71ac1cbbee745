-- Where nothing has a gap, the search where an order can open one finds whether there is one at all. Assumes nothing.
use Rattle.std.proofs.Common.{◌≡◌, ℕ, ◌+◌, Bool, true, false, ◌&&◌, eqb, None, sym, refl, ap, ◌∙◌, inl, inr, arith}
use mathlib.Core.Bool.{false≢true}
use Rattle.std.proofs.lemmas.Bool.{and_from, and_left, and_parts, both_ways, cases_Bool, cases_eq, eq-eqb, eqb-true, not_from_false, not-true, ltb-false, or_cases, or_left, or_right}
use Rattle.model.specs.declared.binding.Binding.{Binding}
use Rattle.model.specs.declared.order.Order.TheVariants.{Unbind}
use Rattle.model.specs.Search.{any, one}
use Rattle.model.specs.Universe.{Universe}
use Rattle.model.specs.Config.{Config, provided, required}
use Rattle.model.specs.Gaps.{Gap, GapFree}
use Rattle.model.specs.Bounded.{Below, any_gap, covered, covers, gap_at}
use Rattle.model.proofs.Searches.{any_found, any_some, refuted}
use Rattle.model.proofs.Results.{change_bound, change_off, unbind_at, unbind_inst}
use Rattle.model.proofs.GapSearch.{found_gap, gap_found, gap_low, gap_passes, passes_gap, search_law}
use Rattle.model.proofs.Openings.{opening_law}
use Rattle.model.proofs.Covering.{covered_count, covering}
use Rattle.hosts.specs.Offences.{offence}
use Rattle.hosts.specs.Survey.{Situation, Lawful}
use Rattle.hosts.proofs.Offending.{lawful_below, offence_none}
use Rattle.rules.specs.declared.gaps.Prospect.{Prospect}
use Rattle.rules.specs.declared.gaps.Prospect.TheVariants.{Present, Changed, Unbound}
use Rattle.rules.specs.Finding.{foreseen}
use Rattle.rules.specs.Opening.{OpensAll, alone, change_opens, lacks, loses, opens, unbind_opens, uncovers}
use Rattle.rules.proofs.Covered.{covers_foreseen}
use Rattle.rules.proofs.Foreseeing.{foreseen_below}

-- two tests are one, if each passes where the other does
equal : (a b : Bool) → (a ≡ true → b ≡ true) → (b ≡ true → a ≡ true) → a ≡ b
equal true b f g = sym (f refl)
equal false true f g = absurd (false≢true (g refl))
equal false false f g = refl

-- a gap is a required port that is covered by nobody
gap_parts : (u : Universe) (d : Config) (z p : ℕ) → gap_at 256 u d z p ≡ true → (required u p (d.inst z) ≡ true) × (covers 256 u d z p ≡ 0)
unfolding gap_at
gap_parts u d z p e =
    let a = and_parts (required u p (d.inst z)) _ e in
    let none = ltb-false 0 (covers 256 u d z p) (sym (covered_count 256 u d z p) ∙ not-true (covered 256 u d z p) a.1) in
    (a.0, omega arith)

gap_of_parts : (u : Universe) (d : Config) (z p : ℕ) → required u p (d.inst z) ≡ true → covers 256 u d z p ≡ 0 → gap_at 256 u d z p ≡ true
unfolding gap_at
gap_of_parts u d z p a b = and_from (required u p (d.inst z)) _ a (rw (covered_count 256 u d z p, b))

-- a gap, by other names of its place
same_gap : (u : Universe) (d : Config) (y p z q : ℕ) → y ≡ z → p ≡ q → Gap u d y p → Gap u d z q
same_gap u d y p z q e f g = rw (sym e, sym f) g

one_true : (b : Bool) → b ≡ true → one b ≡ 1
one_true b e = rw e

one_false : (b : Bool) → b ≡ false → one b ≡ 0
one_false b e = rw e

module _ (s : Situation) (law : Lawful s) (none : any_gap 256 s.universe s.config ≡ false) where
  abbrev u : Universe
  u = s.universe

  abbrev c : Config
  c = s.config

  free : GapFree u c
  free = (search_law 256 u c law.valid (lawful_below s law)).0 none

  -- what requires a port is covered there
  never : (y p : ℕ) → required u p (c.inst y) ≡ true → covers 256 u c y p ≡ 0 → ⊥
  never y p e f = free y p (passes_gap 256 u c (lawful_below s law) y p (gap_of_parts u c y p e f))

  -- whoever would have a gap is found
  whole : (k : Prospect) (y p : ℕ) → required u p ((foreseen k c).inst y) ≡ true → covers 256 u (foreseen k c) y p ≡ 0 → any_gap 256 u (foreseen k c) ≡ true
  whole k y p e f =
      let low = foreseen_below 256 k c (lawful_below s law) in
      gap_found 256 u (foreseen k c) law.valid low y p (passes_gap 256 u (foreseen k c) low y p (gap_of_parts u (foreseen k c) y p e f))

  module _ (z q : ℕ) where
    abbrev k : Prospect
    k = Changed z q

    abbrev d : Config
    d = foreseen k c

    low : Below 256 d
    low = foreseen_below 256 k c (lawful_below s law)

    -- how the count moves with what z covers
    moves : (y p : ℕ) → covers 256 u d y p + one (covering u c y p z) ≡ covers 256 u c y p + one (covering u d y p z)
    moves y p = covers_foreseen s law k z refl y p

    -- z covers what it is bound to and provides
    covers_then : (y p : ℕ) → covering u d y p z ≡ (c.bound p z y && provided u p (d.inst z))
    covers_then y p = rw (change_bound c z q p z y)

    lacking : (p : ℕ) → lacks k s z p ≡ true → any_gap 256 u d ≡ true
    lacking p e =
        let a = and_parts (required u p (d.inst z) && eqb (covers 256 u c z p) 0) _ e in
        let b = and_parts (required u p (d.inst z)) _ a.0 in
        let n : covers 256 u c z p ≡ 0 = eqb-true _ _ b.1 in
        let not_own : covering u d z p z ≡ false = refuted _ (λ t.
        let w = and_parts (c.bound p z z) (provided u p (d.inst z)) (sym (covers_then z p) ∙ t) in
        both_ways (provided u p (d.inst z) && c.bound p z z) (not-true _ a.1) (and_from _ _ w.1 w.0)) in
        let m = moves z p in
        let o = one_false _ not_own in
        whole k z p b.0 (omega arith)

    uncovering : (y p : ℕ) → uncovers k s z y p ≡ true → any_gap 256 u d ≡ true
    uncovering y p e =
        let a = and_parts (required u p (d.inst y) && loses k s z p) (alone s p z y) e in
        let b = and_parts (eqb (covers 256 u c y p) 1) _ a.1 in
        let f = and_parts (required u p (d.inst y)) _ a.0 in
        let l = and_parts (provided u p (c.inst z)) _ f.1 in
        let n : covers 256 u c y p ≡ 1 = eqb-true _ _ b.0 in
        let was : covering u c y p z ≡ true = and_from _ _ b.1 l.0 in
        let gone : covering u d y p z ≡ false = refuted _ (λ t.
        both_ways (provided u p (d.inst z)) (not-true _ l.1) (and_parts (d.bound p z y) _ t).1) in
        let m = moves y p in
        let o = one_true _ was in
        let i = one_false _ gone in
        whole k y p f.0 (omega arith)

    -- what z does not cover afterwards it covered alone, or nobody covered it
    found : (y p : ℕ) → Gap u d y p → change_opens k s z ≡ true
    found y p g =
        let at = gap_low 256 u d law.valid low y p g in
        let t = gap_parts u d y p (gap_passes 256 u d y p g) in
        let gone : covering u d y p z ≡ false = refuted _ (λ b. let w = and_parts (d.bound p z y) _ b in g.uncovered z w.0 w.1) in
        let m = moves y p in
        let i = one_false _ gone in
        elim (cases_Bool (covering u c y p z)) [
          | inl was ↦
              let o = one_true _ was in
              let n : covers 256 u c y p ≡ 1 = omega (arith, t.1) in
              let w = and_parts (c.bound p z y) _ was in
              let off : provided u p (d.inst z) ≡ false = refuted _ (λ b. both_ways _ gone (covers_then y p ∙ and_from _ _ w.0 b)) in
              or_right (any (lacks k s z) u.ports) _
              (any_found (λ y. any (uncovers k s z y) u.ports) y 256 at.0
              (any_found (uncovers k s z y) p u.ports at.1
              (and_from _ _ (and_from _ _ t.0 (and_from _ _ w.1 (not_from_false _ off))) (and_from _ _ (eq-eqb _ 1 n) w.0))))
          | inr not_z ↦
              let o = one_false _ not_z in
              let n : covers 256 u c y p ≡ 0 = omega (arith, t.1) in
              elim (cases_eq y z) [
                | inl e ↦
                    or_left (any (lacks k s z) u.ports) _
                    (any_found (lacks k s z) p u.ports at.1 (own y p e t.0 n gone))
                | inr ne ↦ absurd (never y p (ap (required u p) (sym (change_off c z q y ne)) ∙ t.0) n)
              ]
        ]
      where
        own : (y p : ℕ) → y ≡ z → required u p (d.inst y) ≡ true → covers 256 u c y p ≡ 0 → covering u d y p z ≡ false → lacks k s z p ≡ true
        own y p e r n gone =
            let not_own : (provided u p (d.inst z) && c.bound p z z) ≡ false = refuted _ (λ b.
            let w = and_parts (provided u p (d.inst z)) _ b in
            both_ways (covering u d z p z) (rw e at gone) (covers_then z p ∙ and_from _ _ w.1 w.0)) in
            and_from _ _ (and_from _ _ (rw e at r) (eq-eqb _ 0 (rw e at n))) (not_from_false _ not_own)

    changed : change_opens k s z ≡ any_gap 256 u d
    changed =
        equal (change_opens k s z) (any_gap 256 u d)
        (λ e. elim (or_cases (any (lacks k s z) u.ports) _ e) [
          | inl a ↦ let r = any_some (lacks k s z) u.ports a in lacking r.0 r.2
          | inr b ↦
              let r = any_some (λ y. any (uncovers k s z y) u.ports) 256 b in
              let t = any_some (uncovers k s z r.0) u.ports r.2 in
              uncovering r.0 t.0 t.2
        ])
        (λ e. let r = found_gap 256 u d low e in found r.0 r.1 r.2)

  module _ (j : Binding) (legal : offence (Unbind j) s ≡ None) where
    abbrev after_unbind : Config
    after_unbind = foreseen (Unbound j) c

    -- the provider ceases to cover what it covered
    left : covers 256 u after_unbind j.requirer j.port + one (provided u j.port (c.inst j.provider)) ≡ covers 256 u c j.requirer j.port
    left =
        let m = covers_foreseen s law (Unbound j) j.provider refl j.requirer j.port in
        let bound : c.bound j.port j.provider j.requirer ≡ true = (offence_none s law (Unbind j) legal).0 in
        let was : one (covering u c j.requirer j.port j.provider) ≡ one (provided u j.port (c.inst j.provider)) = rw bound in
        let gone : covering u after_unbind j.requirer j.port j.provider ≡ false = and_left _ _ (unbind_at c j) in
        let o = one_false _ gone in
        omega arith

    unbound : unbind_opens s j ≡ any_gap 256 u after_unbind
    unbound =
        let low = foreseen_below 256 (Unbound j) c (lawful_below s law) in
        let l = left in
        equal (unbind_opens s j) (any_gap 256 u after_unbind)
        (λ e.
        let a = and_parts (required u j.port (c.inst j.requirer)) _ e in
        let n = eqb-true (covers 256 u c j.requirer j.port) _ a.1 in
        whole (Unbound j) j.requirer j.port (ap (required u j.port) (unbind_inst c j j.requirer) ∙ a.0) (omega arith))
        (λ e.
        let r = found_gap 256 u after_unbind low e in
        let at = opening_law u c (Unbind j) law.valid free (offence_none s law (Unbind j) legal).0 r.0 r.1 r.2 in
        let t = gap_parts u after_unbind j.requirer j.port (gap_passes 256 u after_unbind j.requirer j.port (same_gap u after_unbind r.0 r.1 j.requirer j.port at.0 at.1 r.2)) in
        and_from _ _ (ap (required u j.port) (sym (unbind_inst c j j.requirer)) ∙ t.0) (eq-eqb _ _ (omega (arith, t.1))))

pub opens_all : (s : Situation) → Lawful s → (k : Prospect) (r : Bool) → r ≡ opens k s → OpensAll s k r
unfolding opens
opens_all s law Present r e none legal = e
opens_all s law (Changed z q) r e none legal = e ∙ changed s law none z q
opens_all s law (Unbound j) r e none legal = e ∙ unbound s law none j legal
