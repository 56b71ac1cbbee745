use Rattle.std.proofs.Common.{◌∙◌, arith}
use Rattle.planner.proofs.Linking.{create_in_line, kind_small, path_small, wrote_build}
use Rattle.planner.proofs.writing.Plan.write_instance.Goals as goal

pub put-place-requires : goal.put-place-requires
put-place-requires c =
    let s = c.args.self.now in
    rw (c.create.ensures, c.pair-pair.ensures)
    (create_in_line c.args.number _ (omega arith)
    (kind_small s.order.now s.pairs.now s.suppliers s.planned c.args.number c.requires))

pub write_walk-requires-clause-small : goal.write_walk-requires-clause-small
write_walk-requires-clause-small c =
    let s = c.args.self.now in
    rw (c.states.ensures, c.path_of-path.ensures.states, c.pair-pair.ensures)
    (path_small s.order.now s.pairs.now s.suppliers s.planned c.args.number c.requires)

pub returns : goal.returns
returns c =
    wrote_build c.args.self.now.order.now c.args.self.now.pairs.now c.args.number _ _
    (rw c.pair-pair.ensures at c.create.ensures)
    (c.states.ensures ∙ (rw c.pair-pair.ensures at c.path_of-path.ensures.states))
    c.put-place.ensures c.write_walk.ensures
