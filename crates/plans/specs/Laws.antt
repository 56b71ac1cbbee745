-- The laws of the closing order and of scripts, in the words of runs.
use Rattle.std.specs.Prelude.{◌≡◌, ℕ, ◌<◌, ◌≤◌, ◌&&◌, true, ◌↔◌, List, ◌++◌, length, All, ◌==◌, slice_get, IsOk}
use Rattle.std.specs.List.{list_all}
use Rattle.model.specs.declared.pair.Pair.{Pair}
use Rattle.model.specs.declared.order.Order.{Order}
use Rattle.model.specs.Universe.{Universe, Valid}
use Rattle.model.specs.Config.{Config, empty, required}
use Rattle.model.specs.Counts.{bindings}
use Rattle.model.specs.Runs.{Run, RunsFrom, after}
use Rattle.lines.specs.Line.{encoded}
use Rattle.plans.specs.Lists.{listed, pair_at, rank_of}
use Rattle.plans.specs.Closing.{closing, supplier_rank}
use Rattle.plans.specs.Needs.{serves}
use Rattle.plans.specs.Plan.{Plan, Works, script_of}
use Rattle.plans.specs.Goals.{Attained, Reaches}
use Rattle.plans.specs.Script.{needed_pairs, plan_for, script}

-- some run ends with an instance in the pair; a run up to any of its places is a run, so this is the same as ever
-- having one
abbrev pub Attainable : Universe → Pair → Type 0
Attainable u h = (os : List Order) × Run u os × Attained (after empty os) h

-- the script of every plan that works is a run from what stands at the outset
abbrev pub WorkingLaw : Type 0
WorkingLaw = (u : Universe) (s : Plan) → Valid u → Works u s → RunsFrom u s.outset (script_of u s)

-- the plan for the needed pairs of a goal works
abbrev pub PlanLaw : Type 0
PlanLaw = (u : Universe) (goal : List Pair) → Valid u → Works u (plan_for u (closing u) (needed_pairs u goal))

-- the closing order lists a pair exactly if some run ever has an instance in it
abbrev pub ClosingLaw : Type 0
ClosingLaw = (u : Universe) → Valid u → (h : Pair) → (listed (closing u) h ≡ true) ↔ Attainable u h

-- a goal is in reach if all its pairs are listed
abbrev pub InReach : Universe → List Pair → Type 0
InReach u goal = list_all (listed (closing u)) goal ≡ true

-- the script for a goal in reach is a run that reaches it, and no run reaches any other goal
abbrev pub ReachLaw : Type 0
ReachLaw =
    (u : Universe) (goal : List Pair) → Valid u →
    (InReach u goal → Reaches u (script u goal) goal) × ((os : List Order) → Reaches u os goal → InReach u goal)

-- a pair is needed if it is in the goal, or is the supplier of a port that some pair on a needed pair's path requires
pub data Needed (u : Universe) (goal : List Pair) : Pair → Type 0 where
  wanted : {h : Pair} → listed goal h ≡ true → Needed u goal h
  serving : {h : Pair} (g : Pair) → Needed u goal h → listed (closing u) g ≡ true → serves u (closing u) g h ≡ true → Needed u goal g

-- a supplier has a lower rank than each pair that needs it
abbrev pub SupplierLaw : Type 0
SupplierLaw =
    (u : Universe) (g h : Pair) → Valid u → listed (closing u) h ≡ true → serves u (closing u) g h ≡ true →
    rank_of (closing u) g < rank_of (closing u) h

-- the needed pairs are those, and they come in the order of their ranks
abbrev pub NeededLaw : Type 0
NeededLaw =
    (u : Universe) (goal : List Pair) → Valid u → InReach u goal →
    ((h : Pair) → (listed (needed_pairs u goal) h ≡ true) ↔ Needed u goal h) ×
    ((j k : ℕ) → j < k → k < length (needed_pairs u goal) → rank_of (closing u) (pair_at (needed_pairs u goal) j) < rank_of (closing u) (pair_at (needed_pairs u goal) k))

-- what is deployed for a goal: in each needed pair the instance of its number, and for each port that it requires a binding
-- to the instance of the port's supplier; nothing else
abbrev pub deployed : Universe → List Pair → Config
deployed u goal = record {
  inst = λ z. slice_get (needed_pairs u goal) z;
  bound = λ p x y. required u p (slice_get (needed_pairs u goal) y) && (x == rank_of (needed_pairs u goal) (pair_at (closing u) (supplier_rank u (closing u) p)));
}

-- that is what the script leaves
abbrev pub EndLaw : Type 0
EndLaw = (u : Universe) (goal : List Pair) → Valid u → after empty (script u goal) ≡ deployed u goal

-- at every place of the script, each binding's provider has a lower number than its requirer
abbrev pub LowerLaw : Type 0
LowerLaw =
    (u : Universe) (goal : List Pair) → Valid u →
    (os ps : List Order) → script u goal ≡ os ++ ps → (p x y : ℕ) → (after empty os).bound p x y ≡ true → x < y

-- a script for up to 16 pairs has at most 48 instances and 11,136 lines, and at every place of it at most 1,536
-- bindings stand, among whatever ports and numbers they are counted
abbrev pub SizeLaw : Type 0
SizeLaw =
    (u : Universe) (goal : List Pair) → Valid u → length goal ≤ 16 →
    (length (needed_pairs u goal) ≤ 48) × (length (script u goal) ≤ 11136) ×
    ((os ps : List Order) → script u goal ≡ os ++ ps → (m n : ℕ) → bindings m n (after empty os) ≤ 1536)

-- each of its orders has a line
abbrev pub LinesLaw : Type 0
LinesLaw = (u : Universe) (goal : List Pair) → Valid u → length goal ≤ 16 → All (λ o. IsOk (encoded o)) (script u goal)
