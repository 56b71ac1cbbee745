use Rattle.std.proofs.Common.{◌≡◌, drop, vec_items}
use Rattle.console.specs.Hex.{behind, pairs_of}
use Rattle.console.proofs.hex.read_pairs.Given as goal

abbrev pub invariant-loop-high : goal.invariant-loop-high
invariant-loop-high l = behind (vec_items l.bytes) (pairs_of (drop l.high-index l.pairs)) ≡ pairs_of l.pairs
