use Rattle.std.proofs.Common.{◌≡◌, arith}
use Rattle.universe.proofs.Sounds.{sound}
use Rattle.closing.proofs.Tracking.{lists_tracks}
use Rattle.closing.proofs.Rounds.{initial_begins, initial_more, initial_pair, initial_room}
use Rattle.closing.proofs.listing.Listing.initial.Goals as goal

pub loop-kind-init : goal.loop-kind-init
loop-kind-init c = initial_begins c.args.universe.now.tables c.empty-listing.result (c.empty-listing.ensures c.args.universe.now.tables)

pub push-requires-clause-room : goal.push-requires-clause-room
push-requires-clause-room c =
    let h = c.args.universe.now in
    let few = ((sound h.tables h.sound).valid.types).1 in
    let types = c.types-kind-end.ensures in
    let low = c.loop-kind-test.true in
    omega (arith, initial_room h.tables c.loop-kind.listing c.loop-kind.kind c.loop-kind.invariant)

pub push-requires-clause-tracks : goal.push-requires-clause-tracks
push-requires-clause-tracks c = lists_tracks c.args.universe.now.tables _ c.loop-kind.listing c.loop-kind.invariant

pub push-requires-clause-in_universe : goal.push-requires-clause-in_universe
push-requires-clause-in_universe c =
    let types = c.types-kind-end.ensures in
    let low = c.loop-kind-test.true in
    initial_pair c.args.universe.now c.loop-kind.kind (omega arith)

pub loop-kind-preserved : goal.loop-kind-preserved
loop-kind-preserved c =
    initial_more c.args.universe.now.tables c.loop-kind.listing c.push.new.self c.loop-kind.kind c.loop-kind.invariant c.push.ensures

pub returns : goal.returns
returns c =
    let last : c.loop-kind.kind ≡ c.args.universe.now.tables.types = omega (arith, c.types-kind-end.ensures, c.loop-kind-test.false, c.loop-kind.auto.kind-end) in
    rw last at c.loop-kind.invariant
