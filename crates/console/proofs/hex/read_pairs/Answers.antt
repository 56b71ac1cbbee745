use Rattle.std.proofs.Common.{vec_items, sym, ◌∙◌, arith}
use Rattle.console.proofs.HexTurns.{hex_more}
use Rattle.console.proofs.hex.read_pairs.Goals as goal

pub loop-high-preserved : goal.loop-high-preserved
loop-high-preserved c =
    hex_more (vec_items c.loop-high.bytes) c.args.pairs.now c.loop-high.high-index _ c.loop-high.invariant
    c.in_ok-byte.byte _ (omega arith) (sym c.byte_of.ensures ∙ c.in_ok-byte.ensures.ok_part) c.in_ok-push.ensures.items
