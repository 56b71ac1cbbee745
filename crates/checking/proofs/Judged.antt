-- Lines are judged good exactly if they pass. Assumes nothing.
use Rattle.std.proofs.Common.{◌≡◌, ℕ, suc, ◌≤◌, Bool, true, false, ltb, List, [], ◌∷◌, ◌++◌, length, map, Ok, Err, Result, sym, refl, ap, ◌∙◌, subst}
use Rattle.std.proofs.lemmas.Bool.{le-ltb, ltb-false, or_parts}
use Rattle.std.proofs.lemmas.List.Elements.{All-cons, All-head, All-nil, All-tail}
use Rattle.model.specs.declared.order.Order.{Order}
use Rattle.model.specs.Universe.{Universe, Valid}
use Rattle.model.specs.Config.{Config, empty}
use Rattle.model.specs.Counts.{bindings}
use Rattle.model.specs.Orders.{result_of}
use Rattle.model.specs.Runs.{RunsFrom, after}
use Rattle.lines.specs.Line.{decoded}
use Rattle.hosts.specs.Laws.{InRange}
use Rattle.universe.specs.declared.held.Universe.{Universe as Held}
use Rattle.universe.specs.Held.{universe_in}
use Rattle.universe.proofs.Sounds.{sound}
use Rattle.checking.specs.declared.refusal.LineFault.{LineFault}
use Rattle.checking.specs.declared.refusal.CheckRefusal.{CheckRefusal}
use Rattle.checking.specs.declared.refusal.CheckRefusal.TheVariants.{Length}
use Rattle.checking.specs.Judging.{after_line, and_then, judged, length_judged, line_judged, refused_if, replayed, situation}
use Rattle.checking.specs.Passing.{RunAs, Passes, RefusedUnless}
use Rattle.checking.proofs.Stepping.{Good, Stands, empty_stands, good_line, line_good, never}

-- lists with the same first value and the same others
cons_parts : {X : Type 0} (x y : X) (xs ys : List X) → x ∷ xs ≡ y ∷ ys → (x ≡ y) × (xs ≡ ys)
cons_parts x y xs ys e = (cc, cc)

-- where the lines from a place on are good, the first is, and so are the others from what stands after it
line_passes : (place : ℕ) (r : Result Config LineFault) (rest : Config → Result (Unit {0}) CheckRefusal) →
    after_line place r rest ≡ Ok tt → (d : Config) × (r ≡ Ok d) × (rest d ≡ Ok tt)
line_passes place (Ok d) rest h = (d, refl, h)
line_passes place (Err e) rest h = never cc

module _ (u : Universe) where
  -- no lines pass as no orders
  pub none_pass : (c : Config) → Stands u c → RunAs u c [] []
  unfolding RunsFrom after
  none_pass c h = record { told = refl; run = tt; range = All-nil InRange; bindings = places }
    where
      places : (before rest : List Order) → [] ≡ before ++ rest → bindings 32 256 (after c before) ≤ 2048
      places [] rest e = h.few
      places (o ∷ os) rest e = never cc

  -- a good line and lines that pass after it
  pub one_more : (c : Config) → Stands u c → (x : ℕ) (o : Order) (xs : List ℕ) (os : List Order) →
      decoded x ≡ Ok o → Good u c o → RunAs u (result_of o c) xs os → RunAs u c (x ∷ xs) (o ∷ os)
  unfolding RunsFrom after
  one_more c h x o xs os e g p =
      record {
        told = ap (λ y. y ∷ map decoded xs) e ∙ ap (λ ys. Ok o ∷ ys) p.told;
        run = (g.legal, g.next.free, p.run);
        range = All-cons InRange o os g.range p.range;
        bindings = places;
      }
    where
      places : (before rest : List Order) → o ∷ os ≡ before ++ rest → bindings 32 256 (after c before) ≤ 2048
      places [] rest s = h.few
      places (b ∷ before) rest s =
          let q = cons_parts o b os (before ++ rest) s in
          subst (λ (a : Order). bindings 32 256 (after (result_of a c) before) ≤ 2048) q.0 (p.bindings before rest q.1)

  -- by induction over the lines: what is replayed to its end passes
  replayed_passes : (xs : List ℕ) (place : ℕ) (c : Config) → Stands u c → replayed u place c xs ≡ Ok tt →
      (os : List Order) × RunAs u c xs os
  unfolding replayed
  replayed_passes [] place c h e = ([], none_pass c h)
  replayed_passes (x ∷ xs) place c h e =
      let l = line_passes place (line_judged (situation u c) x) (λ d. replayed u (suc place) d xs) e in
      let g = line_good u c h x l.0 l.1 in
      let left = subst (λ d. replayed u (suc place) d xs ≡ Ok tt) g.2 l.2 in
      let r = replayed_passes xs (suc place) (result_of g.0 c) g.3.next left in
      (g.0 ∷ r.0, one_more c h x g.0 xs r.0 g.1 g.3 r.1)

  -- and what passes is replayed to its end
  passes_replayed : (xs : List ℕ) (os : List Order) (place : ℕ) (c : Config) → Stands u c → RunAs u c xs os →
      replayed u place c xs ≡ Ok tt
  unfolding replayed RunsFrom after
  passes_replayed [] os place c h p = refl
  passes_replayed (x ∷ xs) [] place c h p = let e = p.told in never cc
  passes_replayed (x ∷ xs) (o ∷ os) place c h p =
      let t = cons_parts _ _ (map decoded xs) (map Ok os) p.told in
      let l = good_line u c h x o t.0 p.run.0 (All-head InRange o os p.range) p.run.1 (p.bindings (o ∷ []) os refl) in
      let others : RunAs u (result_of o c) xs os = record {
        told = t.1;
        run = p.run.2;
        range = All-tail InRange o os p.range;
        bindings = λ before rest s. p.bindings (o ∷ before) rest (ap (λ ps. o ∷ ps) s);
      } in
      rw l.0 (passes_replayed xs os (suc place) (result_of o c) l.1 others)

-- there are 1 to 32,768 lines
abbrev Sized : List ℕ → Type 0
Sized xs = (1 ≤ length xs) × (length xs ≤ 32768)

-- two tests in a row: where neither refuses, both pass
pub both_pass : (a b : Result (Unit {0}) CheckRefusal) → and_then a b ≡ Ok tt → (a ≡ Ok tt) × (b ≡ Ok tt)
both_pass (Ok tt) b e = (refl, e)
both_pass (Err x) b e = never cc

-- two tests in a row: where both pass, neither refuses
pub pass_both : (a b : Result (Unit {0}) CheckRefusal) → a ≡ Ok tt → b ≡ Ok tt → and_then a b ≡ Ok tt
pass_both a b p q = rw p q

-- a test that does not refuse
pub not_refused : (b : Bool) (e : CheckRefusal) → refused_if b e (Ok (tt {0})) ≡ Ok tt → b ≡ false
not_refused true e h = never cc
not_refused false e h = refl

-- where the number of lines is not refused, there are so many
pub sized : (xs : List ℕ) → length_judged xs ≡ Ok tt → Sized xs
sized xs e =
    let p = or_parts (ltb (length xs) 1) (ltb 32768 (length xs)) (not_refused _ Length e) in
    (ltb-false (length xs) 1 p.0, ltb-false 32768 (length xs) p.1)

-- and so many are not refused
pub length_passes : (xs : List ℕ) → Sized xs → length_judged xs ≡ Ok tt
length_passes xs (some, few) = rw (le-ltb (length xs) 1 some, le-ltb 32768 (length xs) few)

-- lines that are judged good pass
pub judged_passes : (u : Universe) (xs : List ℕ) → Valid u → judged u xs ≡ Ok tt → Passes u xs
judged_passes u xs ok e =
    let b = both_pass (length_judged xs) (replayed u 0 empty xs) e in
    let s = sized xs b.0 in
    let r = replayed_passes u xs 0 empty (empty_stands u ok) b.1 in
    (r.0, record { some = s.0; few = s.1; runs = r.1 })

-- lines that pass are judged good
pub passes_judged : (u : Universe) (xs : List ℕ) → Valid u → Passes u xs → judged u xs ≡ Ok tt
passes_judged u xs ok (os, p) =
    pass_both (length_judged xs) (replayed u 0 empty xs) (length_passes xs (p.some, p.few))
    (passes_replayed u xs os 0 empty (empty_stands u ok) p.runs)

-- in a universe that the code holds, lines are not refused exactly if they pass
pub refused_unless : (h : Held) (xs : List ℕ) (r : Result (Unit {0}) CheckRefusal) → r ≡ judged (universe_in h) xs →
    RefusedUnless (universe_in h) xs r
refused_unless h xs r is =
    let ok = (sound h.tables h.sound).valid in
    ((λ e. judged_passes (universe_in h) xs ok (sym is ∙ e)), (λ p. is ∙ passes_judged (universe_in h) xs ok p))

-- the same of what replaying them tells, where their number is not refused
pub refused_after : (h : Held) (xs : List ℕ) (r : Result (Unit {0}) CheckRefusal) → length_judged xs ≡ Ok tt →
    r ≡ replayed (universe_in h) 0 empty xs → RefusedUnless (universe_in h) xs r
refused_after h xs r e is = refused_unless h xs r (is ∙ sym (rw e))
