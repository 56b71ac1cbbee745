-- What check answers.
use Rattle.std.specs.Prelude.{◌≡◌, ◌↔◌, ℕ, Bool, true, not, ◌&&◌, ◌==◌, List, Ok, Err, IsOk, Result}
use Rattle.model.specs.Config.{empty}
use Rattle.hosts.specs.Survey.{Situation, bindings_of, instances_of}
use Rattle.checking.specs.declared.stages.Draft.{Draft}
use Rattle.checking.specs.declared.stages.CheckedPlan.{CheckedPlan}
use Rattle.checking.specs.declared.refusal.CheckRefusal.{CheckRefusal}
use Rattle.checking.specs.declared.refusal.CheckRefusal.TheVariants.{NotEmpty}
use Rattle.checking.specs.Passing.{Passes}
use Rattle.checking.specs.Judging.{and_then, length_judged, refused_if, replayed}

-- neither an instance nor a binding stands
abbrev pub is_empty : Situation → Bool
is_empty s = instances_of s == 0 && bindings_of s == 0

-- so it is told exactly if the configuration is the empty one
abbrev pub TellsEmpty : Situation → Bool → Type 0
TellsEmpty s r = (r ≡ true) ↔ (s.config ≡ empty)

-- the plan with the lines of a draft
abbrev pub plan_of : Draft → Result (Unit {0}) CheckRefusal → Result CheckedPlan CheckRefusal
plan_of d (Ok x) = Ok (record { lines = d.lines })
plan_of d (Err e) = Err e

-- refused where something stands
abbrev pub empty_judged : Situation → Result (Unit {0}) CheckRefusal
empty_judged s = refused_if (not (is_empty s)) NotEmpty (Ok tt)

-- the number of lines is tested first, then that nothing stands, and then the lines are judged in the host's universe
abbrev pub lines_checked : Situation → List ℕ → Result (Unit {0}) CheckRefusal
lines_checked s xs = and_then (length_judged xs) (and_then (empty_judged s) (replayed s.universe 0 empty xs))

-- the same of a draft
abbrev pub checked : Situation → Draft → Result CheckedPlan CheckRefusal
checked s d = plan_of d (lines_checked s d.lines.now)

-- it yields a plan exactly if nothing stands in the host and the lines pass in its universe
abbrev pub CheckedUnless : Situation → Draft → Result CheckedPlan CheckRefusal → Type 0
CheckedUnless s d r = IsOk r ↔ ((s.config ≡ empty) × Passes s.universe d.lines.now)
