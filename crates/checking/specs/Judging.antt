-- The judgement of a draft: its lines are replayed from empty, up to the first that is bad.
use Rattle.std.specs.Prelude.{ℕ, suc, Bool, cond, ◌&&◌, ◌||◌, List, [], ◌∷◌, length, Some, None, Ok, Err, Option, Result, nat_le, nat_lt}
use Rattle.model.specs.declared.order.Order.{Order}
use Rattle.model.specs.Universe.{Universe}
use Rattle.model.specs.Config.{Config, empty}
use Rattle.model.specs.Orders.{result_of}
use Rattle.lines.specs.declared.refusal.LineRefusal.{LineRefusal}
use Rattle.lines.specs.Line.{decoded}
use Rattle.hosts.specs.declared.refusal.Offence.{Offence}
use Rattle.hosts.specs.Survey.{Situation, bindings_of}
use Rattle.hosts.specs.Offences.{offence}
use Rattle.hosts.specs.Answers.{is_bind, leaves_gap}
use Rattle.checking.specs.declared.refusal.LineFault.{LineFault}
use Rattle.checking.specs.declared.refusal.LineFault.TheVariants.{NotALine, Illegal, Gap, TooManyBindings}
use Rattle.checking.specs.declared.refusal.CheckRefusal.{CheckRefusal}
use Rattle.checking.specs.declared.refusal.CheckRefusal.TheVariants.{Length, AtLine}

-- what stands in the universe
abbrev pub situation : Universe → Config → Situation
situation u c = record { universe = u; config = c }

-- refused with e if the test holds, else what follows
abbrev pub refused_if : {X E : Type 0} → Bool → E → Result X E → Result X E
refused_if b e r = cond b (Err e) r

-- refused with the offence, if there is one, else what follows
abbrev pub refused_by : {X : Type 0} → Option Offence → Result X LineFault → Result X LineFault
refused_by (Some e) r = Err (Illegal e)
refused_by None r = r

-- what stands after the order, or why it is bad: it is not legal, its result has a gap, or it is a bind past 2,048 standing
-- bindings
unfoldable pub order_judged : Situation → Order → Result Config LineFault
order_judged s o =
    refused_by (offence o s)
    (refused_if (leaves_gap o s) Gap
    (refused_if (is_bind o && nat_le 2048 (bindings_of s)) TooManyBindings
    (Ok (result_of o s.config))))

-- what stands after the order that a number tells, if it tells one
abbrev pub told_judged : Situation → Result Order LineRefusal → Result Config LineFault
told_judged s (Ok o) = order_judged s o
told_judged s (Err e) = Err NotALine

-- what stands after the line, or why it is bad
unfoldable pub line_judged : Situation → ℕ → Result Config LineFault
line_judged s x = told_judged s (decoded x)

-- a bad line is told with its place; else what follows from what stands after it
abbrev pub after_line : ℕ → Result Config LineFault → (Config → Result (Unit {0}) CheckRefusal) → Result (Unit {0}) CheckRefusal
after_line place (Ok d) rest = rest d
after_line place (Err e) rest = Err (AtLine place e)

-- the lines from a place on, replayed from c: the first that is bad refuses them
unfoldable pub replayed : Universe → ℕ → Config → List ℕ → Result (Unit {0}) CheckRefusal
replayed u place c [] = Ok tt
replayed u place c (x ∷ xs) = after_line place (line_judged (situation u c) x) (λ d. replayed u (suc place) d xs)

-- refused where there are no lines, or more than 32,768
abbrev pub length_judged : List ℕ → Result (Unit {0}) CheckRefusal
length_judged xs = refused_if (nat_lt (length xs) 1 || nat_lt 32768 (length xs)) Length (Ok tt)

-- what is refused stays refused; else what follows
abbrev pub and_then : Result (Unit {0}) CheckRefusal → Result (Unit {0}) CheckRefusal → Result (Unit {0}) CheckRefusal
and_then (Ok _) r = r
and_then (Err e) r = Err e

-- the lines are judged in a universe, with no host
abbrev pub judged : Universe → List ℕ → Result (Unit {0}) CheckRefusal
judged u xs = and_then (length_judged xs) (replayed u 0 empty xs)
