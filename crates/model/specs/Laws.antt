-- The laws of the model, on which all later arguments rest.
use Rattle.std.specs.Prelude.{◌≡◌, ℕ, ◌+◌, ◌<◌, ◌≤◌, true, false, not, ◌&&◌, ◌⊎◌, List, ◌++◌}
use Rattle.model.specs.declared.order.Order.{Order}
use Rattle.model.specs.declared.order.Order.TheVariants.{Create, Bind, Change, Unbind, Delete}
use Rattle.model.specs.Universe.{Universe, Valid}
use Rattle.model.specs.Config.{Config, WellFormed, empty, moved, provided}
use Rattle.model.specs.Gaps.{Gap, GapFree}
use Rattle.model.specs.Orders.{Legal, result_of}
use Rattle.model.specs.Runs.{after, RunsFrom}
use Rattle.model.specs.Bounded.{Below, any_gap}
use Rattle.model.specs.Counts.{instances, bindings}

-- where nothing stands, all is well formed and nothing has a gap
abbrev pub EmptyLaw : Type 0
EmptyLaw = (u : Universe) → WellFormed u empty × GapFree u empty

-- a legal order keeps a configuration well formed
abbrev pub FormedLaw : Type 0
FormedLaw = (u : Universe) (c : Config) (o : Order) → Valid u → WellFormed u c → Legal u c o → WellFormed u (result_of o c)

-- where an order can open a gap: a change at the instance itself, and at those bound to it on a port
-- that it stops providing; an unbind at its requirer and port; the others nowhere
abbrev pub Opens : Universe → Config → Order → ℕ → ℕ → Type 0
Opens u c (Create z' t) z p = ⊥
Opens u c (Bind b) z p = ⊥
Opens u c (Change z' q) z p =
    (z ≡ z') ⊎ ((c.bound p z' z && (provided u p (c.inst z') && not (provided u p (moved (c.inst z') q)))) ≡ true)
Opens u c (Unbind b) z p = (z ≡ b.requirer) × (p ≡ b.port)
Opens u c (Delete z') z p = ⊥

-- from a gap-free configuration, a legal order leads to gaps only where it can open one
abbrev pub OpeningLaw : Type 0
OpeningLaw =
    (u : Universe) (c : Config) (o : Order) → Valid u → GapFree u c → Legal u c o →
    (z p : ℕ) → Gap u (result_of o c) z p → Opens u c o z p

-- where nothing stands from n on, the search below n finds a gap exactly if there is one
abbrev pub SearchLaw : Type 0
SearchLaw =
    (n : ℕ) (u : Universe) (c : Config) → Valid u → Below n c →
    (any_gap n u c ≡ false → GapFree u c) × (GapFree u c → any_gap n u c ≡ false)

-- a run from a well-formed, gap-free configuration leads to one
abbrev pub RunLaw : Type 0
RunLaw =
    (u : Universe) (c : Config) (os : List Order) → Valid u → WellFormed u c → GapFree u c → RunsFrom u c os →
    WellFormed u (after c os) × GapFree u (after c os)

-- a run is a run up to every place, and a run from there
abbrev pub PrefixLaw : Type 0
PrefixLaw =
    (u : Universe) (c : Config) (os ps : List Order) →
    (RunsFrom u c (os ++ ps) → RunsFrom u c os × RunsFrom u (after c os) ps) ×
    (RunsFrom u c os × RunsFrom u (after c os) ps → RunsFrom u c (os ++ ps)) ×
    (after c (os ++ ps) ≡ after (after c os) ps)

-- how an order whose numbers are below m and n moves the counts below m and n: a create is one instance more and a
-- bind one binding more, an unbind one binding less, a delete one instance less and no binding more
abbrev pub Moves : ℕ → ℕ → Config → Order → Type 0
Moves m n c (Create z t) =
    z < n → (instances n (result_of (Create z t) c) ≡ instances n c + 1) × (bindings m n (result_of (Create z t) c) ≡ bindings m n c)
Moves m n c (Bind b) =
    b.port < m → b.provider < n → b.requirer < n → (instances n (result_of (Bind b) c) ≡ instances n c) × (bindings m n (result_of (Bind b) c) ≡ bindings m n c + 1)
Moves m n c (Change z q) =
    (instances n (result_of (Change z q) c) ≡ instances n c) × (bindings m n (result_of (Change z q) c) ≡ bindings m n c)
Moves m n c (Unbind b) =
    b.port < m → b.provider < n → b.requirer < n → (instances n (result_of (Unbind b) c) ≡ instances n c) × (bindings m n c ≡ bindings m n (result_of (Unbind b) c) + 1)
Moves m n c (Delete z) =
    z < n → (instances n c ≡ instances n (result_of (Delete z) c) + 1) × (bindings m n (result_of (Delete z) c) ≤ bindings m n c)

-- legal orders move the counts so
abbrev pub CountLaw : Type 0
CountLaw = (m n : ℕ) (u : Universe) (c : Config) (o : Order) → Legal u c o → Moves m n c o
