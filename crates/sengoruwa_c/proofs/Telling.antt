-- What is told of a universe, and of a draft that is refused. Assumes nothing.
use Rattle.std.proofs.Common.{◌≡◌, ℕ, ◌+◌, ◌-◌, ◌*◌, ◌/◌, ◌%◌, ◌^◌, ◌<◌, ◌≤◌, ◌≢◌, true, List, Ok, Err, refl, sym, ap, ◌∙◌, arith}
use Rattle.std.proofs.lemmas.Bool.{and_from, eq-eqb, le-ltb, ne_eqb}
use Rattle.model.specs.Universe.{Universe}
use Rattle.model.specs.Config.{empty}
use Rattle.model.proofs.Counting.{bindings_none, instances_none}
use Rattle.universe.specs.declared.tables.State.{State}
use Rattle.universe.specs.declared.tables.Tables.{Tables}
use Rattle.universe.specs.Packed.{entry_of}
use Rattle.universe.specs.Reading.{Read}
use Rattle.universe.specs.Sets.{field, has}
use Rattle.universe.specs.Tables.{entry_at, universe_of}
use Rattle.universe.proofs.PackedSets.{field_has}
use Rattle.checking.specs.Checking.{is_empty}
use Rattle.checking.specs.Judging.{situation}
use Rattle.sengoruwa_c.specs.Numbers.{PlacesLaw, entry_number, set_of}
use Rattle.sengoruwa_c.specs.Refusals.{RefusedAsChecked}

-- a set of an entry that fits its field is the one that packs what is in it
module _ (t : Tables) (k q : ℕ) (s : State) (is : s ≡ entry_at t k q) where
  pub provided_packed : s.provided < 2 ^ 32 → s.provided ≡ field 32 ((universe_of t).provides k q)
  provided_packed fits = sym (field_has 32 s.provided fits) ∙ ap (λ (e : State). field 32 (has 32 e.provided)) is

  pub required_packed : s.required < 2 ^ 32 → s.required ≡ field 32 ((universe_of t).requires k q)
  required_packed fits = sym (field_has 32 s.required fits) ∙ ap (λ (e : State). field 32 (has 32 e.required)) is

  pub successors_packed : s.successors < 2 ^ 8 → s.successors ≡ field 8 ((universe_of t).next k q)
  successors_packed fits = sym (field_has 8 s.successors fits) ∙ ap (λ (e : State). field 8 (has 8 e.successors)) is

-- the set i of a state stands at its place
entry_place : (u : Universe) (t q i : ℕ) → q < 8 → i < 3 → entry_number u (18 + 3 * (8 * t + q) + i) ≡ set_of (entry_of u t q) i
entry_place u t q i low few =
    let place = 18 + 3 * (8 * t + q) + i in
    let some : place ≢ 0 = omega arith in
    let more : place ≢ 1 = omega arith in
    let behind : 18 ≤ place = omega arith in
    let kind : (place - 18) / 24 ≡ t = omega arith in
    let state : (place - 18) / 3 % 8 ≡ q = omega arith in
    let set : (place - 18) % 3 ≡ i = omega arith in
    rw (ne_eqb place 0 some, ne_eqb place 1 more, le-ltb place 18 behind, kind, state, set) refl

-- the sets stand where they are told
pub places_law : PlacesLaw
places_law u t q low =
    let first : 18 + 3 * (8 * t + q) ≡ 18 + 3 * (8 * t + q) + 0 = omega arith in
    (ap (entry_number u) first ∙ entry_place u t q 0 low (omega arith), entry_place u t q 1 low (omega arith), entry_place u t q 2 low (omega arith))

-- where nothing stands, that is told
empty_told : (u : Universe) → is_empty (situation u empty) ≡ true
empty_told u = and_from _ _ (eq-eqb _ _ (instances_none 256 empty (λ z. refl))) (eq-eqb _ _ (bindings_none 32 256 empty (λ p x y. refl)))

-- so a fresh host refuses just what is judged bad
pub refused_as_checked : (r : Read Tables) (xs : List ℕ) → RefusedAsChecked r xs
refused_as_checked (Ok t) xs = rw (empty_told (universe_of t))
refused_as_checked (Err e) xs = refl
