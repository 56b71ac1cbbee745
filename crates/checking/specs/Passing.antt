-- What it means that lines pass, in the words of runs.
use Rattle.std.specs.Prelude.{◌≡◌, ℕ, ◌<◌, ◌≤◌, ◌↔◌, All, List, ◌++◌, length, map, take, Some, Ok, IfErr, IsErr, Result, slice_index}
use Rattle.model.specs.declared.binding.Binding.{Binding}
use Rattle.model.specs.declared.order.Order.{Order}
use Rattle.model.specs.declared.order.Order.TheVariants.{Bind}
use Rattle.model.specs.Universe.{Universe}
use Rattle.model.specs.Config.{Config, empty}
use Rattle.model.specs.Counts.{bindings}
use Rattle.model.specs.Gaps.{Gap as InGap}
use Rattle.model.specs.Orders.{Legal, result_of}
use Rattle.model.specs.Runs.{RunsFrom, after}
use Rattle.lines.specs.Line.{decoded}
use Rattle.hosts.specs.Laws.{InRange}
use Rattle.hosts.specs.Offences.{offence}
use Rattle.checking.specs.declared.refusal.CheckRefusal.{CheckRefusal}
use Rattle.checking.specs.declared.refusal.CheckRefusal.TheVariants.{Length, NotEmpty, AtLine}
use Rattle.checking.specs.declared.refusal.LineFault.{LineFault}
use Rattle.checking.specs.declared.refusal.LineFault.TheVariants.{NotALine, Illegal, Gap, TooManyBindings}
use Rattle.checking.specs.Judging.{situation}

-- from c, the lines run as these orders: they tell them; each is legal where it stands, and nothing has a gap after any of
-- them; the numbers of their instances are at most 255; and at every place at most 2,048 bindings stand
pub record RunAs (u : Universe) (c : Config) (xs : List ℕ) (os : List Order) : Type 0 where
  pub told : map decoded xs ≡ map Ok os
  pub run : RunsFrom u c os
  pub range : All InRange os
  pub bindings : (before rest : List Order) → os ≡ before ++ rest → bindings 32 256 (after c before) ≤ 2048

-- the lines pass as these orders: there are 1 to 32,768 lines, and from empty they run as these orders
pub record PassesAs (u : Universe) (xs : List ℕ) (os : List Order) : Type 0 where
  pub some : 1 ≤ length xs
  pub few : length xs ≤ 32768
  pub runs : RunAs u empty xs os

-- the lines pass
abbrev pub Passes : Universe → List ℕ → Type 0
Passes u xs = (os : List Order) × PassesAs u xs os

-- the lines are not refused exactly if they pass
abbrev pub RefusedUnless : Universe → List ℕ → Result (Unit {0}) CheckRefusal → Type 0
RefusedUnless u xs r = (r ≡ Ok tt) ↔ Passes u xs

-- where c stands, the line is bad for this reason: it tells no order; its order is not legal; its order is legal, and
-- some instance has a gap in its result; or it is a legal bind, and 2,048 bindings stand
abbrev pub IsBad : Universe → Config → ℕ → LineFault → Type 0
IsBad u c x NotALine = IsErr (decoded x)
IsBad u c x (Illegal e) = (o : Order) × (decoded x ≡ Ok o) × (offence o (situation u c) ≡ Some e) × (Legal u c o → ⊥)
IsBad u c x Gap = (o : Order) × (decoded x ≡ Ok o) × Legal u c o × (z : ℕ) × (p : ℕ) × InGap u (result_of o c) z p
IsBad u c x TooManyBindings =
    (b : Binding) × (decoded x ≡ Ok (Bind b)) × Legal u c (Bind b) × (2048 ≤ bindings 32 256 c)

-- the line at the place is bad, and none before it: from empty those run as some orders, and it is bad where these end
pub record FirstBad (u : Universe) (xs : List ℕ) (place : ℕ) (fault : LineFault) : Type 0 where
  pub few : length xs ≤ 32768
  pub inside : place < length xs
  pub orders : List Order
  pub runs : RunAs u empty (take place xs) orders
  pub bad : IsBad u (after empty orders) (slice_index xs place) fault

-- the refusal is right: the number of lines is not one that can pass; something stands in the host; or a line is told as
-- bad that is the first
abbrev pub IsRight : Type 0 → Universe → List ℕ → CheckRefusal → Type 0
IsRight occupied u xs Length = (1 ≤ length xs) → (length xs ≤ 32768) → ⊥
IsRight occupied u xs NotEmpty = occupied
IsRight occupied u xs (AtLine place fault) = FirstBad u xs place fault

-- what is refused is refused rightly
abbrev pub RefusedRightly : {X : Type 0} → Type 0 → Universe → List ℕ → Result X CheckRefusal → Type 0
RefusedRightly occupied u xs r = IfErr r (IsRight occupied u xs)
