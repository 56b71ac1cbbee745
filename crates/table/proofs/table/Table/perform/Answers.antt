use Rattle.table.specs.Table.{held_of, lawful_of}
use Rattle.table.proofs.Applying.{able, done_ranged}
use Rattle.table.proofs.table.Table.perform.Goals as goal

pub perform-requires-clause-able : goal.perform-requires-clause-able
perform-requires-clause-able c = let t = c.args.self.now in able c.args.order (held_of t) (lawful_of t) t.room c.requires

pub perform-requires-2 : goal.perform-requires-2
perform-requires-2 c = let t = c.args.self.now in able c.args.order (held_of t) (lawful_of t) t.room c.requires

pub invariant_of-self : goal.invariant_of-self
invariant_of-self c =
    let t = c.args.self.now in
    let k = c.perform-2.new.self in
    let s = (held_of t).situation in
    record {
      ranged = done_ranged s.universe s.config t.limits c.args.order (lawful_of t) c.requires k.slots k.rows k.len c.perform-2.ensures;
      counted = rw c.perform-2.ensures c.perform.ensures;
      room = t.room;
    }
