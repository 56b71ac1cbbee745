-- The turns of the loop over the lines of a draft. Assumes nothing.
use Rattle.std.proofs.Common.{◌≡◌, ℕ, ◌+◌, ◌<◌, ◌≤◌, Bool, true, false, ◌&&◌, leb, List, length, get_or, drop, Some, None, Ok, Err, Option, Result, refl, sym, ap, ◌∙◌, add-one}
use Rattle.std.proofs.lemmas.List.{at_drop_all, at_drop_more}
use Rattle.model.specs.declared.order.Order.{Order}
use Rattle.model.specs.Config.{Config, empty}
use Rattle.model.specs.Orders.{result_of}
use Rattle.model.proofs.Formed.{empty_law}
use Rattle.model.proofs.GapSearch.{search_law}
use Rattle.lines.specs.declared.refusal.LineRefusal.{LineRefusal}
use Rattle.lines.specs.Line.{decoded}
use Rattle.hosts.specs.declared.refusal.Offence.{Offence}
use Rattle.hosts.specs.Survey.{Lawful, Situation, bindings_of, has_gap}
use Rattle.hosts.specs.Offences.{offence}
use Rattle.hosts.specs.Answers.{is_bind, leaves_gap}
use Rattle.hosts.proofs.Offending.{lawful_below}
use Rattle.table.specs.declared.table.Table.{Table}
use Rattle.table.specs.Table.{Held, held_of, lawful_of, situation_of}
use Rattle.model.specs.Universe.{Universe}
use Rattle.checking.specs.declared.refusal.CheckRefusal.{CheckRefusal}
use Rattle.checking.specs.declared.refusal.LineFault.{LineFault}
use Rattle.checking.specs.declared.refusal.LineFault.TheVariants.{Gap, TooManyBindings}
use Rattle.checking.specs.Judging.{after_line, line_judged, order_judged, refused_by, refused_if, replayed, situation, told_judged}
use Rattle.checking.specs.Replaying.{answer_at, fresh, largest}
use Rattle.checking.proofs.Stepping.{never}

-- what is refused at a place is a fault
fault_judged : (place : ℕ) (j : Result Config LineFault) (r : CheckRefusal)
    (rest : Config → Result (Unit {0}) CheckRefusal) → Err r ≡ answer_at place j → after_line place j rest ≡ Err r
fault_judged place (Ok d) r rest h = never cc
fault_judged place (Err e) r rest h = sym h

-- what passes leaves no gap
order_free : (s : Situation) (o : Order) (d : Config) → order_judged s o ≡ Ok d →
    has_gap (situation s.universe d) ≡ false
unfolding order_judged
order_free s o d e = by (offence o s) (leaves_gap o s) refl (is_bind o && leb 2048 (bindings_of s)) e
  where
    by : (x : Option Offence) (g : Bool) → leaves_gap o s ≡ g → (f : Bool) →
        refused_by x (refused_if g Gap (refused_if f TooManyBindings (Ok (result_of o s.config)))) ≡ Ok d →
        has_gap (situation s.universe d) ≡ false
    by (Some a) g l f h = never cc
    by None true l f h = never cc
    by None false l true h = never cc
    by None false l false h = let same : result_of o s.config ≡ d = cc in rw (sym same) l

line_free : (s : Situation) (x : ℕ) (d : Config) → line_judged s x ≡ Ok d → has_gap (situation s.universe d) ≡ false
unfolding line_judged
line_free s x d e = by (decoded x) e
  where
    by : (r : Result Order LineRefusal) → told_judged s r ≡ Ok d → has_gap (situation s.universe d) ≡ false
    by (Ok o) h = order_free s o d h
    by (Err a) h = never cc

module _ (u : Universe) (c : Config) (xs : List ℕ) (i : ℕ) (all : Result (Unit {0}) CheckRefusal)
    (so_far : replayed u i c (drop i xs) ≡ all) where
  -- what follows from the line at the place
  abbrev others : Config → Result (Unit {0}) CheckRefusal
  others d = replayed u (i + 1) d (drop (i + 1) xs)

  -- by what is judged of the line there
  turn : i < length xs → after_line i (line_judged (situation u c) (get_or xs i 0)) others ≡ all
  unfolding replayed
  turn h =
      sym (at_drop_more (replayed u i c) xs i 0 h
      ∙ ap (λ k. after_line i (line_judged (situation u c) (get_or xs i 0)) (λ d. replayed u k d (drop (i + 1) xs)))
      (sym (add-one i)))
      ∙ so_far

  -- after a line that passes, the rest follows
  turn_more : (d : Config) → i < length xs → line_judged (situation u c) (get_or xs i 0) ≡ Ok d → others d ≡ all
  turn_more d h e = sym (ap (λ j. after_line i j others) e) ∙ turn h

  -- a bad line is the refusal
  pub turn_last : (r : CheckRefusal) → i < length xs →
      Err r ≡ answer_at i (line_judged (situation u c) (get_or xs i 0)) → Err r ≡ all
  turn_last r h f = sym (fault_judged i (line_judged (situation u c) (get_or xs i 0)) r others f) ∙ turn h

  -- behind the last line nothing is refused
  pub turn_end : length xs ≤ i → Ok tt ≡ all
  unfolding replayed
  turn_end h = sym (at_drop_all (replayed u i c) xs i h) ∙ so_far

-- so far all lines passed: the table is the largest and has no gap, and what is left gives the whole
pub record Passed (u : Universe) (xs : List ℕ) (i : ℕ) (t : Table) : Type 0 where
  pub large : (held_of t).limits ≡ largest
  pub free : has_gap (situation_of t) ≡ false
  pub rest : replayed (situation_of t).universe i (situation_of t).config (drop i xs) ≡ replayed u 0 empty xs

module _ (u : Universe) (xs : List ℕ) where
  -- nothing has a gap where nothing stands
  fresh_free : (h : Held) → Lawful h.situation → h ≡ fresh u → has_gap h.situation ≡ false
  fresh_free h law is =
      rw is ((search_law 256 u empty (rw is at law.valid) (lawful_below _ (rw is at law))).1 (empty_law u).1)

  -- before the first line
  pub passed_first : (t : Table) → held_of t ≡ fresh u → Passed u xs 0 t
  passed_first t is = record {
    large = ap (λ (h : Held). h.limits) is;
    free = fresh_free (held_of t) (lawful_of t) is;
    rest = ap (λ (h : Held). replayed h.situation.universe 0 h.situation.config xs) is;
  }

  -- after a line that passes
  pub passed_more : (i : ℕ) (t t' : Table) →
      replayed (situation_of t).universe i (situation_of t).config (drop i xs) ≡ replayed u 0 empty xs →
      i < length xs → line_judged (situation_of t) (get_or xs i 0) ≡ Ok (situation_of t').config →
      (held_of t).limits ≡ largest → (situation_of t').universe ≡ (situation_of t).universe →
      (held_of t').limits ≡ (held_of t).limits → Passed u xs (i + 1) t'
  passed_more i t t' rest low e large same limits = record {
    large = limits ∙ large;
    free = rw (sym same) at (line_free (situation_of t) (get_or xs i 0) (situation_of t').config e);
    rest =
        ap (λ v. replayed v (i + 1) (situation_of t').config (drop (i + 1) xs)) same
        ∙ turn_more (situation_of t).universe (situation_of t).config xs i _ rest (situation_of t').config low e;
  }
