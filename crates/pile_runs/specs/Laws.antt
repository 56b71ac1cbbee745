-- Runs of scripts on fresh piles.
use Rattle.std.specs.Prelude.{◌≡◌, ℕ, ◌+◌, ◌*◌, ◌≤◌, min, List, count_by, length, slice_get}
use Rattle.model.specs.declared.order.Order.{Order}
use Rattle.model.specs.Universe.{Universe, Valid}
use Rattle.model.specs.Runs.{after}
use Rattle.hosts.specs.Answers.{is_bind, is_create}
use Rattle.checking.specs.Passing.{PassesAs}
use Rattle.execution.specs.Steps.{Steps, begun, reached}
use Rattle.execution.specs.Laws.{CoversAll, Start}
use Rattle.options.specs.declared.HostOptions.{HostOptions}
use Rattle.piles.specs.Piles.{fresh, fresh_cloud_of, pile_of}
use Rattle.executor.specs.Steps.{beginning}
use Rattle.pile_runs.specs.Piles.{pile_steps}

-- every fresh pile of up to two layers is a start for the orders as which lines pass, whatever its limits and delay
abbrev pub PileStartLaw : Type 0
PileStartLaw = (u : Universe) (o : HostOptions) (xs : List ℕ) (os : List Order) → Valid u → PassesAs u xs os → Start os (fresh u o)

-- and from there what the pile does gives a run of every script, of as many steps as are wanted
abbrev pub PileRunsLaw : Type 0
PileRunsLaw =
    (u : Universe) (o : HostOptions) (os : List Order) (n : ℕ) → Valid u →
    Steps os (begun (fresh u o)) (pile_steps (pile_of o.layers) (slice_get os) (beginning (fresh_cloud_of u o)) n) ×
    (length (pile_steps (pile_of o.layers) (slice_get os) (beginning (fresh_cloud_of u o)) n) ≡ n)

-- its allowances cover every script with no more creates and binds than its limits
abbrev pub PileCoversLaw : Type 0
PileCoversLaw =
    (u : Universe) (o : HostOptions) (os : List Order) → count_by is_create os ≤ min o.instances 256 → count_by is_bind os ≤ min o.bindings 2048 →
    CoversAll os (fresh u o).service.load

-- so such a script, if it passes, comes to its end on the pile by lines × (delay + 1) steps
abbrev pub PileEndsLaw : Type 0
PileEndsLaw =
    (u : Universe) (o : HostOptions) (xs : List ℕ) (os : List Order) → Valid u → PassesAs u xs os →
    count_by is_create os ≤ min o.instances 256 → count_by is_bind os ≤ min o.bindings 2048 →
    let ts = pile_steps (pile_of o.layers) (slice_get os) (beginning (fresh_cloud_of u o)) (length os * (min o.delay 8 + 1)) in
    ((reached (begun (fresh u o)) ts).place ≡ length os) ×
    ((reached (begun (fresh u o)) ts).host.situation ≡ record { universe = (fresh u o).situation.universe; config = after (fresh u o).situation.config os })
