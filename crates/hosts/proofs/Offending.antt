-- An order has no offence exactly if it is legal and in range, and then keeps the law of surveys. Assumes nothing.
use Rattle.std.proofs.Common.{◌≡◌, ℕ, ◌<◌, ◌≤◌, Bool, true, false, not, ◌||◌, eqb, ltb, leb, ◌≢◌, None, Option, sym, refl, ap, ◌∙◌, inl, inr, arith}
use Rattle.std.proofs.lemmas.Bool.{and_from, both_ways, cases_eq, eqb-false, le-ltb, leb-false, lt-leb, ltb-false, ne_eqb, not-false, not_from_true, or_from, or_parts}
use Rattle.model.specs.declared.binding.Binding.{Binding}
use Rattle.model.specs.declared.pair.Pair.{Pair}
use Rattle.model.specs.declared.order.Order.{Order}
use Rattle.model.specs.declared.order.Order.TheVariants.{Create, Bind, Change, Unbind, Delete}
use Rattle.model.specs.Search.{any}
use Rattle.model.specs.Universe.{Universe, Valid}
use Rattle.model.specs.Config.{Config, WellFormed, stands, passes, ever_provides, ever_requires}
use Rattle.model.specs.Orders.{Legal, result_of}
use Rattle.model.specs.Bounded.{Below}
use Rattle.model.proofs.Searches.{refuted, any_found, any_none_of, any_some}
use Rattle.model.proofs.Results.{passes_some, create_off, create_bound, bind_inst, bind_cases, change_off, change_bound, unbind_inst, unbind_was, delete_at, delete_off, delete_was}
use Rattle.hosts.specs.Survey.{Situation, Lawful}
use Rattle.hosts.specs.Offences.{refused_if, standing, out_of_range, lacks_end, unfit, follows, provider_test, offence}
use Rattle.hosts.specs.Laws.{InRange, LegalLaw, LawfulLaw}

-- nothing refuses: this test does not, nor does what follows
pub none_if : {E : Type 0} (b : Bool) (e : E) (later : Option E) → refused_if b e later ≡ None → (b ≡ false) × (later ≡ None)
none_if true e later h = absurd (let z : ◌≡◌ {A = ℕ} 0 1 = cc in omega arith)
none_if false e later h = (refl, h)

pub if_none : {E : Type 0} (b : Bool) (e : E) (later : Option E) → b ≡ false → later ≡ None → refused_if b e later ≡ None
if_none b e later p q = rw p q

-- what passes stands
passes_stands : (o : Option Pair) (f : Pair → Bool) → passes o f ≡ true → stands o ≡ true
passes_stands o f e = ap stands (passes_some o f e).1

-- a port that some state of a type has is one of the universe
ever_provided : (u : Universe) → Valid u → (p : ℕ) (o : Option Pair) → ever_provides u p o ≡ true → p < u.ports
ever_provided u ok p o e =
    let s = passes_some o _ e in
    let q = any_some (λ q. u.provides s.0.kind q p) (u.states s.0.kind) s.2 in
    (ok.provides _ _ p q.2).1

module _ (s : Situation) (law : Lawful s) where
  abbrev c : Config
  c = s.config

  abbrev u : Universe
  u = s.universe

  -- a binding's numbers are in range
  in_range : (p x y : ℕ) → out_of_range s p x y ≡ false → (p < u.ports) × (x < 256) × (y < 256)
  in_range p x y e =
      let a = or_parts (ltb 255 x || ltb 255 y) (leb u.ports p) e in
      let b = or_parts (ltb 255 x) (ltb 255 y) a.0 in
      (leb-false u.ports p a.1, omega (arith, ltb-false 255 x b.0), omega (arith, ltb-false 255 y b.1))

  range_in : (p x y : ℕ) → p < u.ports → x < 256 → y < 256 → out_of_range s p x y ≡ false
  range_in p x y lp lx ly =
      or_from _ _ (or_from _ _ (le-ltb 255 x (omega arith)) (le-ltb 255 y (omega arith))) (lt-leb u.ports p lp)

  ends_there : (x y : ℕ) → stands (c.inst x) ≡ true → stands (c.inst y) ≡ true → lacks_end s x y ≡ false
  ends_there x y ex ey = not_from_true _ (and_from _ _ ex ey)

  -- the ends and the port of a binding without offence
  pub bind_range : (j : Binding) → offence (Bind j) s ≡ None → (j.port < u.ports) × (j.provider < 256) × (j.requirer < 256)
  bind_range j h = in_range j.port j.provider j.requirer (none_if (out_of_range s j.port j.provider j.requirer) _ _ h).0

  pub unbind_range : (j : Binding) → offence (Unbind j) s ≡ None → (j.port < u.ports) × (j.provider < 256) × (j.requirer < 256)
  unbind_range j h = in_range j.port j.provider j.requirer (none_if (out_of_range s j.port j.provider j.requirer) _ _ h).0

  -- the state of a change without offence
  pub change_range : (z q : ℕ) → offence (Change z q) s ≡ None → (z < 256) × (q < 8)
  change_range z q h =
      let a = none_if (ltb 255 z || ltb 7 q) _ _ h in
      let b = or_parts (ltb 255 z) (ltb 7 q) a.0 in
      (omega (arith, ltb-false 255 z b.0), omega (arith, ltb-false 7 q b.1))

  -- who is found to provide nothing provides nothing, and the other way round
  unused : (z : ℕ) → provider_test c z ≡ false → (p y : ℕ) → c.bound p z y ≡ false
  unfolding provider_test
  unused z out p y = refuted _ (λ e.
      let r = law.bound p z y e in
      both_ways _ out (any_found (λ p. any (c.bound p z) 256) p 32 (omega (arith, r.0, law.valid.ports)) (any_found (c.bound p z) y 256 r.2 e)))

  alone : (z : ℕ) → ((p y : ℕ) → c.bound p z y ≡ false) → provider_test c z ≡ false
  unfolding provider_test
  alone z none = any_none_of _ 32 (λ p lp e. let r = any_some (c.bound p z) 256 e in both_ways _ (none p r.0) r.2)

  -- without offence: legal and in range
  pub offence_none : (o : Order) → offence o s ≡ None → Legal u c o × InRange o
  offence_none (Create z t) h =
      let a = none_if (ltb 255 z || leb u.types t) _ _ h in
      let b = or_parts (ltb 255 z) (leb u.types t) a.0 in
      let d = none_if (standing s z) _ None a.1 in
      ((d.0, leb-false u.types t b.1), omega (arith, ltb-false 255 z b.0))
  offence_none (Bind j) h =
      let a = none_if (out_of_range s j.port j.provider j.requirer) _ _ h in
      let b = none_if (lacks_end s j.provider j.requirer) _ _ a.1 in
      let d = none_if (unfit s j.port j.provider j.requirer) _ _ b.1 in
      let e = none_if (c.bound j.port j.provider j.requirer) _ None d.1 in
      let f = or_parts (eqb j.provider j.requirer || not (ever_provides u j.port (c.inst j.provider))) (not (ever_requires u j.port (c.inst j.requirer))) d.0 in
      let g = or_parts (eqb j.provider j.requirer) (not (ever_provides u j.port (c.inst j.provider))) f.0 in
      let r = in_range j.port j.provider j.requirer a.0 in
      (record { apart = eqb-false j.provider j.requirer g.0; provider = not-false _ g.1; requirer = not-false _ f.1; new = e.0 }, (r.1, r.2))
  offence_none (Change z q) h =
      let a = none_if (ltb 255 z || ltb 7 q) _ _ h in
      let b = none_if (not (standing s z)) _ _ a.1 in
      let d = none_if (not (follows s z q)) _ None b.1 in
      (not-false _ d.0, omega (arith, ltb-false 255 z (or_parts (ltb 255 z) (ltb 7 q) a.0).0))
  offence_none (Unbind j) h =
      let a = none_if (out_of_range s j.port j.provider j.requirer) _ _ h in
      let b = none_if (lacks_end s j.provider j.requirer) _ _ a.1 in
      let d = none_if (not (c.bound j.port j.provider j.requirer)) _ None b.1 in
      let r = in_range j.port j.provider j.requirer a.0 in
      (not-false _ d.0, (r.1, r.2))
  offence_none (Delete z) h =
      let a = none_if (ltb 255 z) _ _ h in
      let b = none_if (not (standing s z)) _ _ a.1 in
      let d = none_if (provider_test c z) _ None b.1 in
      (record { stands = not-false _ b.0; unused = unused z d.0 }, omega (arith, ltb-false 255 z a.0))

  -- in a well-formed configuration, legal and in range: without offence
  pub none_offence : WellFormed u c → (o : Order) → Legal u c o → InRange o → offence o s ≡ None
  none_offence wf (Create z t) l low = if_none _ _ _ (or_from _ _ (le-ltb 255 z (omega arith)) (lt-leb u.types t l.1)) (if_none _ _ _ l.0 refl)
  none_offence wf (Bind j) l low =
      if_none _ _ _ (range_in j.port j.provider j.requirer (ever_provided u law.valid j.port (c.inst j.provider) l.provider) low.0 low.1)
      (if_none _ _ _ (ends_there j.provider j.requirer (passes_stands (c.inst j.provider) _ l.provider) (passes_stands (c.inst j.requirer) _ l.requirer))
      (if_none _ _ _ (or_from _ _ (or_from _ _ (ne_eqb j.provider j.requirer l.apart) (not_from_true _ l.provider)) (not_from_true _ l.requirer))
      (if_none _ _ _ l.new refl)))
  none_offence wf (Change z q) l low =
      let h = passes_some (c.inst z) _ l in
      let n = law.valid.next _ _ q h.2 in
      let few = (law.valid.states _ n.0.0).1 in
      if_none _ _ _ (or_from _ _ (le-ltb 255 z (omega arith)) (le-ltb 7 q (omega (arith, n.1, few))))
      (if_none _ _ _ (not_from_true _ (passes_stands (c.inst z) _ l))
      (if_none _ _ _ (not_from_true _ l) refl))
  none_offence wf (Unbind j) l low =
      if_none _ _ _ (range_in j.port j.provider j.requirer (law.bound j.port j.provider j.requirer l).0 low.0 low.1)
      (if_none _ _ _ (ends_there j.provider j.requirer (passes_stands (c.inst j.provider) _ (wf.providers j.port j.provider j.requirer l)) (passes_stands (c.inst j.requirer) _ (wf.requirers j.port j.provider j.requirer l)))
      (if_none _ _ _ (not_from_true _ l) refl))
  none_offence wf (Delete z) l low =
      if_none _ _ _ (le-ltb 255 z (omega arith))
      (if_none _ _ _ (not_from_true _ l.stands)
      (if_none _ _ _ (alone z l.unused) refl))

  abbrev After : Order → Type 0
  After o = Lawful (record { universe = u; config = result_of o c })

  -- who stands above 255 is not the one that an order in range names
  apart : (y z : ℕ) → 256 ≤ y → z < 256 → y ≢ z
  apart y z out low e = omega arith

  pub lawful_after : (o : Order) → offence o s ≡ None → After o
  lawful_after (Create z t) h =
      let low = (offence_none (Create z t) h).1 in
      record {
        valid = law.valid;
        inst = λ y out. create_off c z t y (apart y z out low) ∙ law.inst y out;
        bound = λ p x y b. law.bound p x y (sym (create_bound c z t p x y) ∙ b);
      }
  lawful_after (Bind j) h =
      record {
        valid = law.valid;
        inst = λ z out. bind_inst c j z ∙ law.inst z out;
        bound = λ p' x' y' b. elim (bind_cases c j p' x' y' b) [
          | inl was ↦ law.bound p' x' y' was
          | inr new ↦ rw (new.0, new.1, new.2) (bind_range j h)
        ];
      }
  lawful_after (Change z q) h =
      let low = (change_range z q h).0 in
      record {
        valid = law.valid;
        inst = λ y out. change_off c z q y (apart y z out low) ∙ law.inst y out;
        bound = λ p x y b. law.bound p x y (sym (change_bound c z q p x y) ∙ b);
      }
  lawful_after (Unbind j) h =
      record {
        valid = law.valid;
        inst = λ z out. unbind_inst c j z ∙ law.inst z out;
        bound = λ p' x' y' b. law.bound p' x' y' (unbind_was c j p' x' y' b);
      }
  lawful_after (Delete z) h =
      record {
        valid = law.valid;
        inst = λ y out. elim (cases_eq y z) [
          | inl e ↦ ap (result_of (Delete z) c).inst e ∙ delete_at c z
          | inr ne ↦ delete_off c z y ne ∙ law.inst y out
        ];
        bound = λ p x y b. law.bound p x y (delete_was c z p x y b).0;
      }

-- the law of surveys bounds what stands
pub lawful_below : (s : Situation) → Lawful s → Below 256 s.config
lawful_below s law = record { inst = law.inst; bound = λ p x y b. let r = law.bound p x y b in (r.1, r.2) }

pub legal_law : LegalLaw
legal_law s o law = (offence_none s law o, λ wf. none_offence s law wf o)

pub lawful_law : LawfulLaw
lawful_law s o law h = lawful_after s law o h
