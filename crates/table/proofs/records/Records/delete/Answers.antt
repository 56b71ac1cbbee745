use Rattle.std.proofs.Common.{◌≡◌, length, arith}
use Rattle.table.proofs.Performed.{deleted, deleted_fit, dropped_most}
use Rattle.table.proofs.records.Records.delete.Goals as goal

pub overflow_sub-self-2 : goal.overflow_sub-self-2
overflow_sub-self-2 c =
    let t = c.args.self.now in
    let left = c.keep_others-left in
    let size : length left.new.rows ≡ length t.rows = omega arith in
    dropped_most t.slots t.rows t.len t.count t.bindings t.fit c.args.instance (omega arith) c.requires left.new.rows left.result.len left.result.dropped size left.ensures

pub invariant_of-self : goal.invariant_of-self
invariant_of-self c =
    let t = c.args.self.now in
    let left = c.keep_others-left in
    let size : length left.new.rows ≡ length t.rows = omega arith in
    record {
      fit = rw c.from.ensures (deleted_fit t.slots t.rows t.len t.count t.bindings t.fit c.args.instance (omega arith) c.requires
          left.new.rows left.result.len left.result.dropped size left.ensures);
    }

pub returns : goal.returns
returns c =
    let t = c.args.self.now in
    let left = c.keep_others-left in
    let size : length left.new.rows ≡ length t.rows = omega arith in
    rw c.from.ensures (deleted t.slots t.rows t.len t.count t.bindings t.fit c.args.instance (omega arith) c.requires
    left.new.rows left.result.len left.result.dropped size left.ensures)
