use Rattle.std.proofs.Common.{◌≡◌, ◌+◌, ◌*◌, subst, arith}
use Rattle.table.specs.Rows.{Place}
use Rattle.table.proofs.Performed.{bound_fit, bound_to, len_most}
use Rattle.table.proofs.records.Records.bind.Goals as goal

pub put_in-self-requires-clause-room : goal.put_in-self-requires-clause-room
put_in-self-requires-clause-room c =
    let t = c.args.self.now in
    omega (arith, len_most t.slots t.rows t.len t.count t.bindings t.fit, c.requires.room, t.fit.room)

pub put_in-self-requires-clause-place : goal.put_in-self-requires-clause-place
put_in-self-requires-clause-place c =
    let t = c.args.self.now in
    let j = c.args.binding in
    let is : c.rank.result ≡ j.provider * 256 + j.requirer = omega (arith, c.rank.ensures, c.of.ensures.provider, c.of.ensures.requirer) in
    subst (λ k. Place t.rows t.len k c.place_of-place.result) is c.place_of-place.ensures

pub invariant_of-self : goal.invariant_of-self
invariant_of-self c =
    let t = c.args.self.now in
    record {
      fit = bound_fit t.slots t.rows t.len t.count t.bindings t.fit c.args.binding c.requires.range
          c.put_in-self.new.rows c.put_in-self.result c.put_in-self.ensures.size c.requires.unbound c.put_in-self.ensures.holds;
    }

pub returns : goal.returns
returns c =
    let t = c.args.self.now in
    bound_to t.slots t.rows t.len t.count t.bindings t.fit c.args.binding c.requires.range
    c.put_in-self.new.rows c.put_in-self.result c.put_in-self.ensures.size c.requires.unbound c.put_in-self.ensures.holds
