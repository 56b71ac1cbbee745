-- Legal orders keep a configuration well formed. Assumes nothing.
use Rattle.std.proofs.Common.{◌≡◌, ℕ, Bool, true, ◌≢◌, Some, None, sym, ap, ◌∙◌, subst, inl, inr, arith}
use mathlib.Core.Bool.{false≢true}
use Rattle.std.proofs.lemmas.Bool.{cases_eq}
use Rattle.model.specs.declared.pair.Pair.{Pair}
use Rattle.model.specs.declared.order.Order.TheVariants.{Create, Bind, Change, Unbind, Delete}
use Rattle.model.specs.Search.{any}
use Rattle.model.specs.Universe.{Universe, IsPair}
use Rattle.model.specs.Config.{Config, WellFormed, empty, pair, ever_provides, ever_requires}
use Rattle.model.specs.Orders.{result_of}
use Rattle.model.specs.Laws.{EmptyLaw, FormedLaw}
use Rattle.model.proofs.Results.{passes_some, create_at, create_off, create_bound, create_keeps, bind_inst, bind_cases, change_to, change_off, change_bound, change_kind, unbind_inst, unbind_was, delete_at, delete_off, delete_apart, delete_was}

-- nothing is not something
unsome : (h : Pair) → None ≡ Some h → ⊥
unsome h e = let z : ◌≡◌ {A = ℕ} 0 1 = cc in omega arith

-- what stands under z is in a pair of the universe
abbrev Paired : Universe → Config → ℕ → Type 0
Paired u c z = (h : Pair) → c.inst z ≡ Some h → IsPair u h.kind h.state

-- the ends of a binding, as a well-formed configuration has them
abbrev Ends : Universe → Config → ℕ → ℕ → ℕ → Type 0
Ends u c p x y = (x ≢ y) × (ever_provides u p (c.inst x) ≡ true) × (ever_requires u p (c.inst y) ≡ true)

-- pairs and ends make a well-formed configuration
from_ends : (u : Universe) (c : Config) → ((z : ℕ) → Paired u c z) → ((p x y : ℕ) → c.bound p x y ≡ true → Ends u c p x y) → WellFormed u c
from_ends u c pairs all =
    record {
      pairs = pairs;
      apart = λ p x y b. (all p x y b).0;
      providers = λ p x y b. (all p x y b).1;
      requirers = λ p x y b. (all p x y b).2;
    }

-- and a well-formed configuration has them
ends : (u : Universe) (c : Config) → WellFormed u c → (p x y : ℕ) → c.bound p x y ≡ true → Ends u c p x y
ends u c wf p x y b = (wf.apart p x y b, wf.providers p x y b, wf.requirers p x y b)

-- the same ends, where the same stands under their numbers
ends_at : (u : Universe) (c d : Config) (p x y : ℕ) → d.inst x ≡ c.inst x → d.inst y ≡ c.inst y → Ends u c p x y → Ends u d p x y
ends_at u c d p x y ex ey e = (e.0, ap (ever_provides u p) ex ∙ e.1, ap (ever_requires u p) ey ∙ e.2)

-- a configuration that differs at z alone has its pairs, if it has one at z
pairs_but : (u : Universe) (c d : Config) (z : ℕ) → WellFormed u c →
    ((y : ℕ) → y ≢ z → d.inst y ≡ c.inst y) → Paired u d z → (y : ℕ) → Paired u d y
pairs_but u c d z wf off at y h e =
    elim (cases_eq y z) [
      | inl q ↦ at h (ap d.inst (sym q) ∙ e)
      | inr ne ↦ wf.pairs y h (sym (off y ne) ∙ e)
    ]

-- a pair of the universe is all that stands where it stands
paired : (u : Universe) (c : Config) (z : ℕ) (g : Pair) → IsPair u g.kind g.state → c.inst z ≡ Some g → Paired u c z
paired u c z g is at h e =
    let same : g ≡ h = cc in
    let P : Pair → Type 0 = λ h. IsPair u h.kind h.state in
    subst P same is

-- nothing stands in the empty configuration
pub empty_law : EmptyLaw
empty_law u = (from_ends u empty (λ z h e. absurd (unsome h e)) (λ p x y b. absurd (false≢true b)), λ z p g. false≢true g.requires)

-- each order leaves the pairs and the ends as they have to be
pub formed_law : FormedLaw
formed_law u c (Create z t) ok wf (free, low) =
    let d : Config = result_of (Create z t) c in
    from_ends u d
    (pairs_but u c d z wf (create_off c z t) (paired u d z (pair t 0) (low, (ok.states t low).0) (create_at c z t)))
    (λ p x y b.
    let e = ends u c wf p x y (sym (create_bound c z t p x y) ∙ b) in
    (e.0, create_keeps c z t free _ x e.1, create_keeps c z t free _ y e.2))
formed_law u c (Bind j) ok wf l =
    let d : Config = result_of (Bind j) c in
    from_ends u d (λ z h e. wf.pairs z h (sym (bind_inst c j z) ∙ e)) (λ p' x' y' b.
    ends_at u c d p' x' y' (bind_inst c j x') (bind_inst c j y') (elim (bind_cases c j p' x' y' b) [
      | inl was ↦ ends u c wf p' x' y' was
      | inr new ↦ rw (new.0, new.1, new.2) (l.apart, l.provider, l.requirer)
    ]))
formed_law u c (Change z q) ok wf l =
    let d : Config = result_of (Change z q) c in
    let s = passes_some (c.inst z) _ l in
    let n = ok.next s.0.kind s.0.state q s.2 in
    from_ends u d
    (pairs_but u c d z wf (change_off c z q) (paired u d z (pair s.0.kind q) (n.0.0, n.1) (change_to c z q s.0 s.1)))
    (λ p x y b.
    let e = ends u c wf p x y (sym (change_bound c z q p x y) ∙ b) in
    let keeps = λ (f : ℕ → ℕ → ℕ → Bool). change_kind c z q (λ k. any (λ q. f k q p) (u.states k)) in
    (e.0, keeps u.provides x ∙ e.1, keeps u.requires y ∙ e.2))
formed_law u c (Unbind j) ok wf l =
    let d : Config = result_of (Unbind j) c in
    from_ends u d (λ z h e. wf.pairs z h (sym (unbind_inst c j z) ∙ e)) (λ p' x' y' b.
    ends_at u c d p' x' y' (unbind_inst c j x') (unbind_inst c j y') (ends u c wf p' x' y' (unbind_was c j p' x' y' b)))
formed_law u c (Delete z) ok wf l =
    let d : Config = result_of (Delete z) c in
    from_ends u d
    (pairs_but u c d z wf (delete_off c z) (λ h e. absurd (unsome h (sym (delete_at c z) ∙ e))))
    (λ p x y b.
    let w = delete_was c z p x y b in
    ends_at u c d p x y (delete_off c z x (delete_apart c z l p x y w.0)) (delete_off c z y w.1) (ends u c wf p x y w.0))
