-- What the calls write, and the runs that one of them makes.
use Rattle.std.specs.Prelude.{◌≡◌, ℕ, ◌≤◌, List, min, Ok, Err, Result}
use Rattle.model.specs.declared.order.Order.{Order}
use Rattle.model.specs.Universe.{Universe}
use Rattle.model.specs.Config.{empty}
use Rattle.universe.specs.declared.held.Universe.{Universe as Held}
use Rattle.universe.specs.declared.tables.Tables.{Tables}
use Rattle.universe.specs.Reading.{Read}
use Rattle.universe.specs.Tables.{universe_of}
use Rattle.hosts.specs.Service.{Service}
use Rattle.hosts.specs.Answers.{Answer}
use Rattle.planner.specs.Planning.{list_after, planned}
use Rattle.checking.specs.Judging.{situation}
use Rattle.cloud.specs.declared.state.Cloud.{Cloud}
use Rattle.cloud.specs.Cloud.{CloudState, CloudTakes, cloud_of, cloud_service, cloud_situation}
use Rattle.layers.specs.Verifying.{Relays, watched}
use Rattle.sengoruwa_c.specs.declared.records.Ended.{Ended}
use Rattle.sengoruwa_c.specs.declared.records.Settings.{Settings}
use Rattle.sengoruwa_c.specs.declared.refusal.Refused.{Refused}
use Rattle.sengoruwa_c.specs.Filled.{filled}
use Rattle.sengoruwa_c.specs.Numbers.{entry_number}
use Rattle.sengoruwa_c.specs.Runs.{RanOn}

-- the tables of the universe that was read
abbrev pub tables_held : Result Held Refused → Result Tables Refused
tables_held (Ok h) = Ok h.tables
tables_held (Err e) = Err e

-- the list afterwards: what is told of the universe that was read, and behind that what the list held
abbrev pub entries_left : Read Tables → List ℕ → List ℕ
entries_left (Ok t) xs = filled (entry_number (universe_of t)) 402 xs
entries_left (Err e) xs = xs

-- the list afterwards, as planning leaves it
abbrev pub list_left : Read Tables → List ℕ → List ℕ → List ℕ
list_left (Ok t) goal xs = list_after (planned (universe_of t) goal) xs
list_left (Err e) goal xs = xs

-- the number of lines afterwards: that of the answer, or what it was
abbrev pub lines_left : Result ℕ Refused → ℕ → ℕ
lines_left (Ok n) before = n
lines_left (Err e) before = before

-- an empty cloud of the universe; larger limits and delays count as the largest
abbrev pub cloud_opened : Universe → Settings → CloudState
cloud_opened u c = record {
  held = record {
    situation = situation u empty;
    limits = record { instances = min c.instances 256; bindings = min c.bindings 2048 };
  };
  waits = min c.delay 8;
  delay = min c.delay 8;
}

-- what a cloud means and does under one verifying layer, and under two
abbrev pub service_under : Cloud → Service
service_under k = watched (cloud_service k)

abbrev pub TakesUnder : Order → Cloud → Cloud → Answer → Type 0
TakesUnder o h k r = Relays cloud_situation cloud_service CloudTakes o h k r

abbrev pub service_under_two : Cloud → Service
service_under_two k = watched (service_under k)

abbrev pub TakesUnderTwo : Order → Cloud → Cloud → Answer → Type 0
TakesUnderTwo o h k r = Relays cloud_situation service_under TakesUnder o h k r

-- the lines were run on a fresh cloud, where v and `does` tell what it means and does under its layers
abbrev pub RanFresh : (Cloud → Service) → (Order → Cloud → Cloud → Answer → Type 0) → Universe → Settings → List ℕ →
    List ℕ → List ℕ → List ℕ → List ℕ → Ended → Type 0
RanFresh v does u c xs answers_before answers_after standing_before standing_after e =
    (h : Cloud) × (k : Cloud) × (cloud_of h ≡ cloud_opened u c) ×
    RanOn cloud_situation v does xs h k answers_before answers_after standing_before standing_after e

-- the same by the number of layers: none, one, or two, as which more count
pub record RanUnder (u : Universe) (c : Settings) (xs answers_before answers_after standing_before standing_after : List ℕ) (e : Ended) : Type 0 where
  pub none : c.layers ≡ 0 → RanFresh cloud_service CloudTakes u c xs answers_before answers_after standing_before standing_after e
  pub one : c.layers ≡ 1 → RanFresh service_under TakesUnder u c xs answers_before answers_after standing_before standing_after e
  pub two : 2 ≤ c.layers → RanFresh service_under_two TakesUnderTwo u c xs answers_before answers_after standing_before standing_after e

-- a universe was read, and the lines were run so in it
abbrev pub RanFrom : Read Tables → Settings → List ℕ → List ℕ → List ℕ → List ℕ → List ℕ → Ended → Type 0
RanFrom (Ok t) c xs answers_before answers_after standing_before standing_after e =
    RanUnder (universe_of t) c xs answers_before answers_after standing_before standing_after e
RanFrom (Err e) c xs answers_before answers_after standing_before standing_after end = ⊥

-- the end of a run that was refused
abbrev pub nothing_ended : Ended
nothing_ended = record { place = 0; leases = 0; instances = 0; bindings = 0; waits = 0; creations = 0; binds = 0 }

-- what the call leaves: of what is refused zeros, and the lists as they were; else it was run so
abbrev pub RunTold : Result (Unit {0}) Refused → Read Tables → Settings → List ℕ → List ℕ → List ℕ → List ℕ → List ℕ → Ended → Type 0
RunTold (Ok x) r c xs answers_before answers_after standing_before standing_after e =
    RanFrom r c xs answers_before answers_after standing_before standing_after e
RunTold (Err refused) r c xs answers_before answers_after standing_before standing_after e =
    (answers_after ≡ answers_before) × (standing_after ≡ standing_before) × (e ≡ nothing_ended)
