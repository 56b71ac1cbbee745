-- What the table tells of an order is what is judged of it. Assumes nothing.
use Rattle.std.proofs.Common.{◌≡◌, ℕ, ◌-◌, ◌≤◌, Bool, true, false, ◌&&◌, leb, eqb, Some, None, Ok, Err, Option, Result, sym, refl, ap, ◌∙◌, subst, arith}
use mathlib.Core.Bool.{false≢true}
use Rattle.std.proofs.lemmas.Bool.{eqb-false, eqb-true, le-leb, lt-leb}
use Rattle.model.specs.declared.order.Order.{Order}
use Rattle.model.specs.declared.order.Order.TheVariants.{Create, Bind, Change, Unbind, Delete}
use Rattle.model.specs.Gaps.{GapFree}
use Rattle.model.specs.Orders.{result_of}
use Rattle.model.proofs.Counting.{create_counts, instances_most}
use Rattle.model.proofs.GapSearch.{search_law}
use Rattle.hosts.specs.declared.refusal.Offence.{Offence}
use Rattle.hosts.specs.declared.refusal.Reason.{Reason}
use Rattle.hosts.specs.declared.refusal.Reason.TheVariants.{Busy, Gap as Gapped, Full, Illegal as Illegally}
use Rattle.hosts.specs.Survey.{Situation, Lawful, bindings_of, has_gap}
use Rattle.hosts.specs.Offences.{offence, refused_if as told_if}
use Rattle.hosts.specs.Answers.{illegal_or, full_test, is_bind, is_tested, leaves_gap}
use Rattle.hosts.proofs.Watching.{untested_law}
use Rattle.hosts.proofs.Offending.{lawful_after, lawful_below, offence_none}
use Rattle.table.specs.declared.table.Table.{Table}
use Rattle.table.specs.Table.{Held, applied, held_of, lawful_of, load_of, situation_of, table_rule, told}
use Rattle.checking.specs.declared.refusal.LineFault.TheVariants.{Illegal, Gap, TooManyBindings}
use Rattle.checking.specs.Judging.{order_judged}
use Rattle.checking.specs.Replaying.{answer_of, fault_of_reason, largest}
use Rattle.checking.proofs.Stepping.{never}

module _ (s : Situation) (law : Lawful s) where
  -- no gap is found exactly if there is none
  free_of : has_gap s ≡ false → GapFree s.universe s.config
  free_of e = (search_law 256 s.universe s.config law.valid (lawful_below s law)).0 e

  found_none : GapFree s.universe s.config → has_gap s ≡ false
  found_none free = (search_law 256 s.universe s.config law.valid (lawful_below s law)).1 free

-- an order that is not tested for gaps leaves none, where there was none
pub leaves_none : (s : Situation) → Lawful s → has_gap s ≡ false → (o : Order) → is_tested o ≡ false → offence o s ≡ None →
    leaves_gap o s ≡ false
leaves_none s law none o e n = found_none _ (lawful_after s law o n) (untested_law o s law n e (free_of s law none))

pub untested : (t : Table) (o : Order) → has_gap (situation_of t) ≡ false → offence o (situation_of t) ≡ None →
    is_tested o ≡ false → false ≡ leaves_gap o (situation_of t)
untested t o none n e = sym (leaves_none (situation_of t) (lawful_of t) none o e n)

-- a table that is not full is not full of instances, so the largest is full only for a bind
full_binds : (s : Situation) (law : Lawful s) (o : Order) → offence o s ≡ None →
    full_test o (load_of 0 (record { situation = s; limits = largest })) ≡ true →
    (is_bind o ≡ true) × (is_tested o ≡ false) × (2048 ≤ bindings_of s)
full_binds s law (Create z t) n e =
    let l = offence_none s law (Create z t) n in
    let m = create_counts 256 s.config z t l.1 l.0.0 in
    let most = instances_most 256 (result_of (Create z t) s.config) in
    absurd (omega (arith, eqb-true _ _ e))
full_binds s law (Bind b) n e = (refl, refl, omega (arith, eqb-true _ _ e))
full_binds s law (Change z q) n e = absurd (false≢true e)
full_binds s law (Unbind b) n e = absurd (false≢true e)
full_binds s law (Delete z) n e = absurd (false≢true e)

-- the rules of the table in a row
abbrev ruled : Option Offence → Bool → Option Reason
ruled x f = illegal_or x (told_if f Full None)

-- where the table does the order it has no offence and is not full; each refusal tells its rule
ruled_done : (x : Option Offence) (f : Bool) → Ok tt ≡ told (ruled x f) → (x ≡ None) × (f ≡ false)
ruled_done (Some e) f h = never cc
ruled_done None true h = never cc
ruled_done None false h = (refl, refl)

ruled_illegal : (x : Option Offence) (f : Bool) (e : Offence) → Err (Illegally e) ≡ told (ruled x f) → x ≡ Some e
ruled_illegal (Some d) f e h = let z : e ≡ d = cc in ap Some (sym z)
ruled_illegal None true e h = never cc
ruled_illegal None false e h = never cc

ruled_full : (x : Option Offence) (f : Bool) → Err Full ≡ told (ruled x f) → (x ≡ None) × (f ≡ true)
ruled_full (Some d) f h = never cc
ruled_full None true h = (refl, refl)
ruled_full None false h = never cc

ruled_gap : (x : Option Offence) (f : Bool) → Err Gapped ≡ told (ruled x f) → ⊥
ruled_gap (Some d) f h = never cc
ruled_gap None true h = never cc
ruled_gap None false h = never cc

ruled_busy : (x : Option Offence) (f : Bool) → Err Busy ≡ told (ruled x f) → ⊥
ruled_busy (Some d) f h = never cc
ruled_busy None true h = never cc
ruled_busy None false h = never cc

-- there is room for a bind exactly if fewer than 2,048 bindings stand
room_false : (n : ℕ) → eqb (2048 - n) 0 ≡ false → leb 2048 n ≡ false
room_false n e = lt-leb 2048 n (omega (arith, eqb-false _ _ e))

no_room : (s : Situation) (o : Order) → full_test o (load_of 0 (record { situation = s; limits = largest })) ≡ false →
    (is_bind o && leb 2048 (bindings_of s)) ≡ false
no_room s (Create z t) e = refl
no_room s (Bind b) e = room_false (bindings_of s) e
no_room s (Change z q) e = refl
no_room s (Unbind b) e = refl
no_room s (Delete z) e = refl

module _ (s : Situation) (o : Order) where
  abbrev held : Held
  held = record { situation = s; limits = largest }

  pub judged_gap : offence o s ≡ None → leaves_gap o s ≡ true → order_judged s o ≡ Err Gap
  unfolding order_judged
  judged_gap n g = rw (n, g)

  pub judged_done : offence o s ≡ None → leaves_gap o s ≡ false → (is_bind o && leb 2048 (bindings_of s)) ≡ false →
      order_judged s o ≡ Ok (result_of o s.config)
  unfolding order_judged
  judged_done n g f = rw (n, g, f)

  judged_full : offence o s ≡ None → leaves_gap o s ≡ false → (is_bind o && leb 2048 (bindings_of s)) ≡ true →
      order_judged s o ≡ Err TooManyBindings
  unfolding order_judged
  judged_full n g f = rw (n, g, f)

  judged_illegal : (e : Offence) → offence o s ≡ Some e → order_judged s o ≡ Err (Illegal e)
  unfolding order_judged
  judged_illegal e n = rw n

  done_parts : Ok tt ≡ told (table_rule o held) → (offence o s ≡ None) × (full_test o (load_of 0 held) ≡ false)
  unfolding table_rule
  done_parts h = ruled_done (offence o s) (full_test o (load_of 0 held)) h

  illegal_part : (e : Offence) → Err (Illegally e) ≡ told (table_rule o held) → offence o s ≡ Some e
  unfolding table_rule
  illegal_part e h = ruled_illegal (offence o s) (full_test o (load_of 0 held)) e h

  full_parts : Err Full ≡ told (table_rule o held) → (offence o s ≡ None) × (full_test o (load_of 0 held) ≡ true)
  unfolding table_rule
  full_parts h = ruled_full (offence o s) (full_test o (load_of 0 held)) h

  gap_part : Err Gapped ≡ told (table_rule o held) → ⊥
  unfolding table_rule
  gap_part h = ruled_gap (offence o s) (full_test o (load_of 0 held)) h

  busy_part : Err Busy ≡ told (table_rule o held) → ⊥
  unfolding table_rule
  busy_part h = ruled_busy (offence o s) (full_test o (load_of 0 held)) h

-- a refused order leaves what is held, and a done one leads to its result
done_applied : (o : Order) (h : Held) (x : Option Reason) → Ok tt ≡ told x →
    applied o x h ≡ record {
      situation = record { universe = h.situation.universe; config = result_of o h.situation.config };
      limits = h.limits;
    }
done_applied o h None e = refl
done_applied o h (Some r) e = never cc

-- what the largest table tells of an order, and whether the order leaves a gap, is what is judged of it
module _ (t : Table) (o : Order) (big : (held_of t).limits ≡ largest) (none : has_gap (situation_of t) ≡ false) where
  at_largest : (r : Result (Unit {0}) Reason) → r ≡ told (table_rule o (held_of t)) →
      r ≡ told (table_rule o (held (situation_of t) o))
  at_largest r h = subst (λ l. r ≡ told (table_rule o (record { situation = situation_of t; limits = l }))) big h

  module _ (g : Bool) (gap : has_gap (situation_of t) ≡ false → offence o (situation_of t) ≡ None →
      g ≡ leaves_gap o (situation_of t)) where
    gapped : Ok tt ≡ told (table_rule o (held_of t)) → g ≡ true → order_judged (situation_of t) o ≡ Err Gap
    gapped h e =
        let p = done_parts (situation_of t) o (at_largest (Ok tt) h) in
        judged_gap (situation_of t) o p.0 (sym (gap none p.0) ∙ e)

    pub gap_told : Ok tt ≡ told (table_rule o (held_of t)) → g ≡ true →
        Err Gap ≡ answer_of (order_judged (situation_of t) o)
    gap_told h e = ap answer_of (sym (gapped h e))

    done : Ok tt ≡ told (table_rule o (held_of t)) → g ≡ false →
        order_judged (situation_of t) o ≡ Ok (result_of o (situation_of t).config)
    done h e =
        let p = done_parts (situation_of t) o (at_largest (Ok tt) h) in
        judged_done (situation_of t) o p.0 (sym (gap none p.0) ∙ e) (no_room (situation_of t) o p.1)

    pub done_answer : Ok tt ≡ told (table_rule o (held_of t)) → g ≡ false →
        Ok tt ≡ answer_of (order_judged (situation_of t) o)
    done_answer h e = ap answer_of (sym (done h e))

    pub done_told : (k : Held) → Ok tt ≡ told (table_rule o (held_of t)) → g ≡ false →
        k ≡ applied o (table_rule o (held_of t)) (held_of t) →
        order_judged (situation_of t) o ≡ Ok k.situation.config
    done_told k h e is =
        done h e
        ∙ ap (λ (x : Held). Ok x.situation.config) (sym (is ∙ done_applied o (held_of t) (table_rule o (held_of t)) h))

  illegal_told : (e : Offence) → Err (Illegally e) ≡ told (table_rule o (held_of t)) →
      order_judged (situation_of t) o ≡ Err (Illegal e)
  illegal_told e h =
      judged_illegal (situation_of t) o e (illegal_part (situation_of t) o e (at_largest (Err (Illegally e)) h))

  full_told : Err Full ≡ told (table_rule o (held_of t)) → order_judged (situation_of t) o ≡ Err TooManyBindings
  full_told h =
      let p = full_parts (situation_of t) o (at_largest (Err Full) h) in
      let f = full_binds (situation_of t) (lawful_of t) o p.0 p.1 in
      let free = leaves_none (situation_of t) (lawful_of t) none o f.1 p.0 in
      judged_full (situation_of t) o p.0 free (rw (f.0, le-leb 2048 _ f.2))

  refused : (r : Reason) → Err r ≡ told (table_rule o (held_of t)) →
      order_judged (situation_of t) o ≡ Err (fault_of_reason r)
  refused (Illegally e) h = illegal_told e h
  refused Full h = full_told h
  refused Gapped h = absurd (gap_part (situation_of t) o (at_largest (Err Gapped) h))
  refused Busy h = absurd (busy_part (situation_of t) o (at_largest (Err Busy) h))

  pub refused_told : (r : Reason) → Err r ≡ told (table_rule o (held_of t)) →
      Err (fault_of_reason r) ≡ answer_of (order_judged (situation_of t) o)
  refused_told r h = ap answer_of (sym (refused r h))
