use Rattle.std.proofs.Common.{◌≡◌, ◌+◌, ◌*◌, ◌∙◌, arith}
use Rattle.table.proofs.RowSearch.{held_tells, stands_at}
use Rattle.table.proofs.Performed.{bound_some, unbound_fit, unbound_from}
use Rattle.table.proofs.records.Records.unbind.Goals as goal

pub take_out-self-requires-clause-in_bounds : goal.take_out-self-requires-clause-in_bounds
take_out-self-requires-clause-in_bounds c =
    let t = c.args.self.now in
    let j = c.args.binding in
    let is : c.rank.result ≡ j.provider * 256 + j.requirer = omega (arith, c.rank.ensures, c.of.ensures.provider, c.of.ensures.requirer) in
    let at =
    stands_at t.rows t.len t.fit.formed.ordered j.provider j.requirer c.rank.result c.place_of-place.result c.requires.range.1 c.requires.range.2 is
    c.place_of-place.ensures j.port ((held_tells t.rows t.len j.port j.provider j.requirer).0 c.requires.bound) in
    (at.0, omega (arith, t.fit.most, t.fit.room))

pub take_out-self-requires-clause-place : goal.take_out-self-requires-clause-place
take_out-self-requires-clause-place c =
    let t = c.args.self.now in
    let j = c.args.binding in
    let is : c.rank.result ≡ j.provider * 256 + j.requirer = omega (arith, c.rank.ensures, c.of.ensures.provider, c.of.ensures.requirer) in
    (stands_at t.rows t.len t.fit.formed.ordered j.provider j.requirer c.rank.result c.place_of-place.result c.requires.range.1 c.requires.range.2 is
    c.place_of-place.ensures j.port ((held_tells t.rows t.len j.port j.provider j.requirer).0 c.requires.bound)).1 ∙ is

pub overflow_sub-self : goal.overflow_sub-self
overflow_sub-self c =
    let t = c.args.self.now in
    let some = bound_some t.slots t.rows t.len t.count t.bindings t.fit c.args.binding c.requires.range
    c.take_out-self.new.rows c.take_out-self.result c.take_out-self.ensures.size c.requires.bound in
    omega (arith, some)

pub invariant_of-self : goal.invariant_of-self
invariant_of-self c =
    let t = c.args.self.now in
    record {
      fit = unbound_fit t.slots t.rows t.len t.count t.bindings t.fit c.args.binding c.requires.range
          c.take_out-self.new.rows c.take_out-self.result c.take_out-self.ensures.size c.requires.bound c.take_out-self.ensures.holds;
    }

pub returns : goal.returns
returns c =
    let t = c.args.self.now in
    unbound_from t.slots t.rows t.len t.count t.bindings t.fit c.args.binding c.requires.range
    c.take_out-self.new.rows c.take_out-self.result c.take_out-self.ensures.size c.requires.bound c.take_out-self.ensures.holds
