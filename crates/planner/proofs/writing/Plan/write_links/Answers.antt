use Rattle.planner.proofs.Linking.{wrote_links, wrote_no_links}
use Rattle.planner.proofs.writing.Plan.write_links.Goals as goal

pub returns-then-ports-eq0 : goal.returns-then-ports-eq0
returns-then-ports-eq0 c =
    let s = c.args.self.now in
    wrote_links s.order.now s.pairs.now c.args.link c.args.number c.args.absent c.args.present _ _ _ c.new_ports-ports.ensures
    c.required-absent.ensures c.required-present.ensures
    (wrote_no_links _ c.args.link _ c.args.number _ c.args.lines.now c.args.place c.if-ports-eq0.true)

pub returns : goal.returns
returns c =
    let s = c.args.self.now in
    wrote_links s.order.now s.pairs.now c.args.link c.args.number c.args.absent c.args.present _ _ _ c.new_ports-ports.ensures
    c.required-absent.ensures c.required-present.ensures c.write_ports.ensures
