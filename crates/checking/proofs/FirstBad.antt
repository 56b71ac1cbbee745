-- What is refused is refused rightly: a line that is told as bad is the first bad line. Assumes nothing.
use Rattle.std.proofs.Common.{◌≡◌, ℕ, suc, ◌+◌, ◌<◌, ◌≤◌, Bool, true, false, cond, ◌||◌, ltb, ◌⊎◌, List, [], ◌∷◌, length, take, slice_index, Some, None, Ok, Err, Option, Result, refl, sym, ap, ◌∙◌, subst, inl, inr, arith}
use Rattle.std.specs.Result.{IsOk, is_ok}
use Rattle.std.proofs.lemmas.Bool.{leb-true}
use Rattle.model.specs.declared.binding.Binding.{Binding}
use Rattle.model.specs.declared.order.Order.{Order}
use Rattle.model.specs.declared.order.Order.TheVariants.{Create, Bind, Change, Unbind, Delete}
use Rattle.model.specs.Universe.{Universe, Valid}
use Rattle.model.specs.Config.{Config, empty}
use Rattle.model.specs.Orders.{Legal, result_of}
use Rattle.model.specs.Runs.{after}
use Rattle.model.proofs.GapSearch.{found_gap}
use Rattle.lines.specs.declared.refusal.LineRefusal.{LineRefusal}
use Rattle.lines.specs.declared.refusal.LineRefusal.TheVariants.{NotALine as NoLine}
use Rattle.lines.specs.Line.{decoded, encoded, fields_of_order, fits, line_of_fields}
use Rattle.lines.proofs.Coding.{round_trip}
use Rattle.lines.proofs.Packing.{Small, small}
use Rattle.hosts.specs.declared.refusal.Offence.{Offence}
use Rattle.hosts.specs.Survey.{Situation, bindings_of}
use Rattle.hosts.specs.Offences.{offence}
use Rattle.hosts.specs.Answers.{leaves_gap}
use Rattle.hosts.specs.Laws.{InRange}
use Rattle.hosts.proofs.Offending.{none_offence, offence_none}
use Rattle.universe.specs.declared.held.Universe.{Universe as Held}
use Rattle.universe.specs.Held.{universe_in}
use Rattle.universe.proofs.Sounds.{sound}
use Rattle.checking.specs.declared.refusal.LineFault.{LineFault}
use Rattle.checking.specs.declared.refusal.LineFault.TheVariants.{NotALine, Illegal, Gap, TooManyBindings}
use Rattle.checking.specs.declared.refusal.CheckRefusal.{CheckRefusal}
use Rattle.checking.specs.declared.refusal.CheckRefusal.TheVariants.{Length, AtLine}
use Rattle.checking.specs.Judging.{after_line, length_judged, line_judged, order_judged, refused_by, refused_if, replayed, situation, told_judged}
use Rattle.checking.specs.Passing.{RunAs, FirstBad, IsBad, IsRight, RefusedRightly}
use Rattle.checking.proofs.Judged.{length_passes, none_pass, one_more, sized}
use Rattle.checking.proofs.Stepping.{Good, Stands, after_below, empty_stands, line_good, never, overfull}

-- an order that has a line fits its fields
encoded_small : (o : Order) → IsOk (encoded o) → Small (fields_of_order o)
encoded_small o ok = small (fields_of_order o) (by (fits (fields_of_order o)) ok)
  where
    by : (b : Bool) → IsOk (cond b (Ok (line_of_fields (fields_of_order o))) (Err NoLine)) → b ≡ true
    by true ok = refl
    by false ok = ok

-- so the numbers of its instances are in range
pub encoded_range : (o : Order) → IsOk (encoded o) → InRange o
encoded_range (Create z t) ok = (encoded_small (Create z t) ok).first
encoded_range (Bind b) ok = let s = encoded_small (Bind b) ok in (s.first, s.second)
encoded_range (Change z q) ok = (encoded_small (Change z q) ok).first
encoded_range (Unbind b) ok = let s = encoded_small (Unbind b) ok in (s.first, s.second)
encoded_range (Delete z) ok = (encoded_small (Delete z) ok).first

-- and so are those of an order that a line tells
decoded_range : (x : ℕ) (o : Order) → decoded x ≡ Ok o → InRange o
decoded_range x o e = encoded_range o (ap is_ok ((round_trip o x).1 e))

-- what a fault tells of the rules
abbrev Told : Option Offence → Bool → Bool → LineFault → Type 0
Told n g f NotALine = ⊥
Told n g f (Illegal e) = n ≡ Some e
Told n g f Gap = (n ≡ None) × (g ≡ true)
Told n g f TooManyBindings = (n ≡ None) × (f ≡ true)

-- the rules in a row, where one of them refuses: its fault tells of it
rules_tell : (n : Option Offence) (g f : Bool) (a : Config) (e : LineFault) →
    refused_by n (refused_if g Gap (refused_if f TooManyBindings (Ok a))) ≡ Err e → Told n g f e
rules_tell (Some x) g f a e h = let same : Illegal x ≡ e = cc in subst (λ e. Told (Some x) g f e) same refl
rules_tell None true f a e h = let same : Gap ≡ e = cc in subst (λ e. Told None true f e) same (refl, refl)
rules_tell None false true a e h =
    let same : TooManyBindings ≡ e = cc in subst (λ e. Told None false true e) same (refl, refl)
rules_tell None false false a e h = never cc

-- an order that is judged bad breaks the rule that is told
order_tells : (s : Situation) (o : Order) (e : LineFault) → order_judged s o ≡ Err e →
    Told (offence o s) (leaves_gap o s) (overfull o s) e
unfolding order_judged
order_tells s o e h = rules_tell (offence o s) (leaves_gap o s) (overfull o s) (result_of o s.config) e h

-- only a bind is refused where 2,048 bindings stand
overfull_binds : (s : Situation) (o : Order) → overfull o s ≡ true →
    (b : Binding) × (o ≡ Bind b) × (2048 ≤ bindings_of s)
overfull_binds s (Create z t) e = never cc
overfull_binds s (Bind b) e = (b, refl, leb-true 2048 (bindings_of s) e)
overfull_binds s (Change z q) e = never cc
overfull_binds s (Unbind b) e = never cc
overfull_binds s (Delete z) e = never cc

module _ (u : Universe) (c : Config) (h : Stands u c) (x : ℕ) where
  -- an order with an offence is not legal
  offends : (o : Order) (e : Offence) → InRange o → offence o (situation u c) ≡ Some e → Legal u c o → ⊥
  offends o e range n legal = let none = none_offence (situation u c) h.lawful h.formed o legal range in never cc

  -- a line whose order is judged bad is bad for this reason
  order_bad : (o : Order) (e : LineFault) → decoded x ≡ Ok o → order_judged (situation u c) o ≡ Err e → IsBad u c x e
  order_bad o NotALine d j = absurd (order_tells (situation u c) o NotALine j)
  order_bad o (Illegal e) d j =
      let n = order_tells (situation u c) o (Illegal e) j in
      (o, d, n, offends o e (decoded_range x o d) n)
  order_bad o Gap d j =
      let t = order_tells (situation u c) o Gap j in
      let g = found_gap 256 u (result_of o c) (after_below (situation u c) h.lawful o t.0) t.1 in
      (o, d, (offence_none (situation u c) h.lawful o t.0).0, g.0, g.1, g.2)
  order_bad o TooManyBindings d j =
      let t = order_tells (situation u c) o TooManyBindings j in
      let b = overfull_binds (situation u c) o t.1 in (
        b.0,
        d ∙ ap Ok b.1,
        subst (λ o. Legal u c o) b.1 (offence_none (situation u c) h.lawful o t.0).0,
        b.2,
      )

  -- a line that is judged bad is bad for this reason
  line_bad : (e : LineFault) → line_judged (situation u c) x ≡ Err e → IsBad u c x e
  unfolding line_judged
  line_bad e j = by (decoded x) refl j
    where
      by : (r : Result Order LineRefusal) → decoded x ≡ r → told_judged (situation u c) r ≡ Err e → IsBad u c x e
      by (Ok o) d j = order_bad o e d j
      by (Err a) d j = let same : NotALine ≡ e = cc in subst (λ e. IsBad u c x e) same (rw d)

-- from c on, the lines up to a place pass as some orders, and the line there is bad where they lead
record BadFrom (u : Universe) (c : Config) (xs : List ℕ) (k : ℕ) (fault : LineFault) : Type 0 where
  inside : k < length xs
  orders : List Order
  passes : RunAs u c (take k xs) orders
  bad : IsBad u (after c orders) (slice_index xs k) fault

-- where lines from a place on are refused, the first of them is told as bad, or it passes and the others are refused
line_refused : (i : ℕ) (e : CheckRefusal) (r : Result Config LineFault)
    (rest : Config → Result (Unit {0}) CheckRefusal) → after_line i r rest ≡ Err e →
    ((fault : LineFault) × (e ≡ AtLine i fault) × (r ≡ Err fault)) ⊎ ((d : Config) × (r ≡ Ok d) × (rest d ≡ Err e))
line_refused i e (Ok d) rest h = inr (d, refl, h)
line_refused i e (Err fault) rest h = inl (fault, cc, refl)

module _ (u : Universe) where
  -- the first line is bad
  bad_here : (c : Config) → Stands u c → (x : ℕ) (xs : List ℕ) (fault : LineFault) → IsBad u c x fault →
      BadFrom u c (x ∷ xs) 0 fault
  unfolding after
  bad_here c h x xs fault bad = record { inside = omega arith; orders = []; passes = none_pass u c h; bad = bad }

  -- a good line before the first that is bad
  bad_later : (c : Config) → Stands u c → (x : ℕ) (o : Order) (xs : List ℕ) (k : ℕ) (fault : LineFault) →
      decoded x ≡ Ok o → Good u c o → BadFrom u (result_of o c) xs k fault → BadFrom u c (x ∷ xs) (suc k) fault
  unfolding after
  bad_later c h x o xs k fault d g b =
      record {
        inside = let low = b.inside in omega arith;
        orders = o ∷ b.orders;
        passes = one_more u c h x o (take k xs) b.orders d g b.passes;
        bad = b.bad;
      }

  -- by induction over the lines: where they are refused, a line is told, it is bad, and the lines before it pass
  replayed_bad : (xs : List ℕ) (i : ℕ) (c : Config) → Stands u c → (e : CheckRefusal) → replayed u i c xs ≡ Err e →
      (k : ℕ) × (fault : LineFault) × (e ≡ AtLine (i + k) fault) × BadFrom u c xs k fault
  unfolding replayed
  replayed_bad [] i c h e r = never cc
  replayed_bad (x ∷ xs) i c h e r =
      elim (line_refused i e (line_judged (situation u c) x) (λ d. replayed u (suc i) d xs) r) [
        | inl t ↦
            let here : i ≡ i + 0 = omega arith in
            (0, t.0, t.1 ∙ ap (λ n. AtLine n t.0) here, bad_here c h x xs t.0 (line_bad u c h x t.0 t.2))
        | inr t ↦
            let g = line_good u c h x t.0 t.1 in
            let left = subst (λ d. replayed u (suc i) d xs ≡ Err e) g.2 t.2 in
            let b = replayed_bad xs (suc i) (result_of g.0 c) g.3.next e left in
            let later : suc i + b.0 ≡ i + suc b.0 = omega arith in (
              suc b.0,
              b.1,
              b.2 ∙ ap (λ n. AtLine n b.1) later,
              bad_later c h x g.0 xs b.0 b.1 g.1 g.3 b.3,
            )
      ]

-- from empty on, the bad line is the first of no more than 32,768
first_bad : (u : Universe) (xs : List ℕ) (k : ℕ) (fault : LineFault) → length xs ≤ 32768 → BadFrom u empty xs k fault →
    FirstBad u xs k fault
first_bad u xs k fault few b = record {
  few = few;
  inside = b.inside;
  orders = b.orders;
  runs = b.passes;
  bad = b.bad;
}

module _ (occupied : Type 0) (u : Universe) (xs : List ℕ) where
  -- what is refused for the number of lines is refused rightly
  pub length_right : (e : CheckRefusal) → length_judged xs ≡ Err e → IsRight occupied u xs e
  length_right e r = by (ltb (length xs) 1 || ltb 32768 (length xs)) refl
    where
      by : (b : Bool) → (ltb (length xs) 1 || ltb 32768 (length xs)) ≡ b → IsRight occupied u xs e
      by true t =
          let same : Length ≡ e = cc in
          subst (IsRight occupied u xs) same (λ some few. let passes = length_passes xs (some, few) in never cc)
      by false t = never cc

  -- so is what replaying the lines from empty refuses, where their number is not refused
  pub replayed_right : Valid u → length_judged xs ≡ Ok tt → (e : CheckRefusal) → replayed u 0 empty xs ≡ Err e →
      IsRight occupied u xs e
  replayed_right ok sizes e r =
      let b = replayed_bad u xs 0 empty (empty_stands u ok) e r in
      let first = first_bad u xs b.0 b.1 (sized xs sizes).1 b.3 in
      let at : e ≡ AtLine b.0 b.1 = b.2 ∙ ap (λ n. AtLine n b.1) (omega arith) in
      subst (IsRight occupied u xs) (sym at) first

-- in a universe that the code holds, what is refused is refused rightly: for the number of lines
pub length_refused : (h : Held) (xs : List ℕ) (e : CheckRefusal) → Err e ≡ length_judged xs →
    IsRight ⊥ (universe_in h) xs e
length_refused h xs e is = length_right ⊥ (universe_in h) xs e (sym is)

-- and for a line
pub told_first : (h : Held) (xs : List ℕ) (r : Result (Unit {0}) CheckRefusal) → length_judged xs ≡ Ok tt →
    r ≡ replayed (universe_in h) 0 empty xs → RefusedRightly ⊥ (universe_in h) xs r
told_first h xs (Ok tt) sizes is = tt
told_first h xs (Err e) sizes is =
    replayed_right ⊥ (universe_in h) xs (sound h.tables h.sound).valid sizes e (sym is)
