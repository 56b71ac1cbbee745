-- A line is judged good exactly if the order it tells is good where it stands. Assumes nothing.
use Rattle.std.proofs.Common.{◌≡◌, ℕ, ◌+◌, ◌<◌, ◌≤◌, Bool, true, false, cond, ◌&&◌, leb, Some, None, Ok, Err, Option, Result, refl, ◌∙◌, arith}
use Rattle.std.proofs.lemmas.Bool.{leb-false, lt-leb}
use Rattle.model.specs.declared.order.Order.{Order}
use Rattle.model.specs.declared.order.Order.TheVariants.{Create, Bind, Change, Unbind, Delete}
use Rattle.model.specs.Universe.{Universe, Valid}
use Rattle.model.specs.Bounded.{Below}
use Rattle.model.specs.Config.{Config, WellFormed, empty}
use Rattle.model.specs.Counts.{bindings}
use Rattle.model.specs.Gaps.{GapFree}
use Rattle.model.specs.Orders.{Legal, result_of}
use Rattle.model.proofs.Counting.{bindings_none, count_law}
use Rattle.model.proofs.Formed.{empty_law, formed_law}
use Rattle.model.proofs.GapSearch.{search_law}
use Rattle.lines.specs.declared.refusal.LineRefusal.{LineRefusal}
use Rattle.lines.specs.Line.{decoded}
use Rattle.hosts.specs.declared.refusal.Offence.{Offence}
use Rattle.hosts.specs.Survey.{Situation, Lawful, bindings_of}
use Rattle.hosts.specs.Offences.{offence}
use Rattle.hosts.specs.Answers.{is_bind, leaves_gap}
use Rattle.hosts.specs.Laws.{InRange}
use Rattle.hosts.proofs.Growing.{growth_law}
use Rattle.hosts.proofs.Offending.{bind_range, lawful_after, lawful_below, none_offence, offence_none}
use Rattle.checking.specs.declared.refusal.LineFault.TheVariants.{Gap, TooManyBindings}
use Rattle.checking.specs.Judging.{line_judged, order_judged, refused_by, refused_if, situation, told_judged}

-- 0 and 1 are not the same
module _ {X : Type 0} where
  pub never : ◌≡◌ {A = ℕ} 0 1 → X
  never e = absurd (omega arith)

-- the rules of the judgement, in a row: where all of them pass, none has refused
rules_pass : (x : Option Offence) (g f : Bool) (a d : Config) →
    refused_by x (refused_if g Gap (refused_if f TooManyBindings (Ok a))) ≡ Ok d →
    (x ≡ None) × (g ≡ false) × (f ≡ false) × (d ≡ a)
rules_pass (Some e) g f a d h = never cc
rules_pass None true f a d h = never cc
rules_pass None false true a d h = never cc
rules_pass None false false a d h = (refl, refl, refl, cc)

-- a bind is refused where 2,048 bindings stand
abbrev pub overfull : Order → Situation → Bool
overfull o s = is_bind o && leb 2048 (bindings_of s)

module _ (s : Situation) (o : Order) where
  -- an order that is judged good passes each rule and leads to its result
  order_parts : (d : Config) → order_judged s o ≡ Ok d →
      (offence o s ≡ None) × (leaves_gap o s ≡ false) × (overfull o s ≡ false) × (d ≡ result_of o s.config)
  unfolding order_judged
  order_parts d h = rules_pass (offence o s) (leaves_gap o s) (overfull o s) (result_of o s.config) d h

  -- and an order that passes each rule is judged good
  order_good : offence o s ≡ None → leaves_gap o s ≡ false → overfull o s ≡ false →
      order_judged s o ≡ Ok (result_of o s.config)
  unfolding order_judged
  order_good n g f = rw (n, g, f)

module _ (s : Situation) (x : ℕ) where
  -- a line that is judged good tells an order that is
  line_parts : (d : Config) → line_judged s x ≡ Ok d → (o : Order) × (decoded x ≡ Ok o) × (order_judged s o ≡ Ok d)
  unfolding line_judged
  line_parts d h = by (decoded x) refl h
    where
      by : (r : Result Order LineRefusal) → decoded x ≡ r → told_judged s r ≡ Ok d →
          (o : Order) × (decoded x ≡ Ok o) × (order_judged s o ≡ Ok d)
      by (Ok o) e h = (o, e, h)
      by (Err e) p h = never cc

  -- a line that tells an order is judged as the order
  line_told : (o : Order) → decoded x ≡ Ok o → line_judged s x ≡ order_judged s o
  unfolding line_judged
  line_told o e = rw e

-- what holds wherever a line is replayed
pub record Stands (u : Universe) (c : Config) : Type 0 where
  pub lawful : Lawful (situation u c)
  pub formed : WellFormed u c
  pub free : GapFree u c
  pub few : bindings 32 256 c ≤ 2048

-- it holds where nothing stands
pub empty_stands : (u : Universe) → Valid u → Stands u empty
empty_stands u ok =
    let none = bindings_none 32 256 empty (λ p x y. refl) in
    record {
      lawful = record { valid = ok; inst = λ z out. refl; bound = λ p x y b. never cc };
      formed = (empty_law u).0;
      free = (empty_law u).1;
      few = omega arith;
    }

-- an order that is good where this holds: it is legal and in range, and this holds in its result
pub record Good (u : Universe) (c : Config) (o : Order) : Type 0 where
  pub legal : Legal u c o
  pub range : InRange o
  pub next : Stands u (result_of o c)

-- an order without offence leaves a gap exactly if one is found
module _ (s : Situation) (law : Lawful s) (o : Order) (n : offence o s ≡ None) where
  pub after_below : Below 256 (result_of o s.config)
  after_below = lawful_below (record { universe = s.universe; config = result_of o s.config }) (lawful_after s law o n)

  none_left : leaves_gap o s ≡ false → GapFree s.universe (result_of o s.config)
  none_left e = (search_law 256 s.universe (result_of o s.config) law.valid after_below).0 e

  none_found : GapFree s.universe (result_of o s.config) → leaves_gap o s ≡ false
  none_found free = (search_law 256 s.universe (result_of o s.config) law.valid after_below).1 free

-- one more stays within a bound that is not reached
grown : (b : Bool) (n m : ℕ) → n ≤ 2048 → m ≤ n + cond b 1 0 → (b && leb 2048 n) ≡ false → m ≤ 2048
grown true n m low more e = let room = leb-false 2048 n e in omega arith
grown false n m low more e = omega arith

module _ (u : Universe) (c : Config) (h : Stands u c) (o : Order) where
  -- an order that is judged good is good
  judged_good : (d : Config) → order_judged (situation u c) o ≡ Ok d → (d ≡ result_of o c) × Good u c o
  judged_good d e =
      let p = order_parts (situation u c) o d e in
      let l = offence_none (situation u c) h.lawful o p.0 in (
        p.3,
        record {
          legal = l.0;
          range = l.1;
          next = record {
            lawful = lawful_after (situation u c) h.lawful o p.0;
            formed = formed_law u c o h.lawful.valid h.formed l.0;
            free = none_left (situation u c) h.lawful o p.0 p.1;
            few = grown (is_bind o) _ _ h.few (growth_law (situation u c) o h.lawful p.0).1 p.2;
          };
        },
      )

-- an order without offence that leaves no more than 2,048 bindings is no bind where so many stand
room : (s : Situation) (o : Order) → Lawful s → offence o s ≡ None → bindings 32 256 (result_of o s.config) ≤ 2048 →
    overfull o s ≡ false
room s (Create z t) law n few = refl
room s (Bind b) law n few =
    let r = bind_range s law b n in
    let legal = (offence_none s law (Bind b) n).0 in
    let low : b.port < 32 = omega (arith, r.0, law.valid.ports) in
    let m = count_law 32 256 s.universe s.config (Bind b) legal low r.1 r.2 in
    lt-leb 2048 (bindings_of s) (omega (arith, m.1))
room s (Change z q) law n few = refl
room s (Unbind b) law n few = refl
room s (Delete z) law n few = refl

module _ (u : Universe) (c : Config) (h : Stands u c) (o : Order) where
  -- a legal order in range has no offence
  without : Legal u c o → InRange o → offence o (situation u c) ≡ None
  without legal range = none_offence (situation u c) h.lawful h.formed o legal range

  -- and is judged good, where its result has no gap and no more than 2,048 bindings
  good_judged : Legal u c o → InRange o → GapFree u (result_of o c) → bindings 32 256 (result_of o c) ≤ 2048 →
      order_judged (situation u c) o ≡ Ok (result_of o c)
  good_judged legal range free few =
      let n = without legal range in
      order_good (situation u c) o n
      (none_found (situation u c) h.lawful o n free)
      (room (situation u c) o h.lawful n few)

module _ (u : Universe) (c : Config) (h : Stands u c) (x : ℕ) where
  -- a line that is judged good tells a good order, and leads to its result
  pub line_good : (d : Config) → line_judged (situation u c) x ≡ Ok d →
      (o : Order) × (decoded x ≡ Ok o) × (d ≡ result_of o c) × Good u c o
  line_good d e =
      let p = line_parts (situation u c) x d e in
      let g = judged_good u c h p.0 d p.2 in
      (p.0, p.1, g.0, g.1)

  -- a line that tells a legal order in range, whose result has no gap and no more than 2,048 bindings, is judged good
  pub good_line : (o : Order) → decoded x ≡ Ok o → Legal u c o → InRange o →
      GapFree u (result_of o c) → bindings 32 256 (result_of o c) ≤ 2048 →
      (line_judged (situation u c) x ≡ Ok (result_of o c)) × Stands u (result_of o c)
  good_line o e legal range free few = (
    line_told (situation u c) x o e ∙ good_judged u c h o legal range free few,
    record {
      lawful = lawful_after (situation u c) h.lawful o (without u c h o legal range);
      formed = formed_law u c o h.lawful.valid h.formed legal;
      free = free;
      few = few;
    },
  )
