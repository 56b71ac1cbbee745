use Rattle.std.proofs.Common.{◌≡◌, flat_map, take, vec_items}
use Rattle.scripts.specs.Scripts.{line_bytes_of}
use Rattle.scripts.proofs.script_bytes.Given as goal

-- the bytes of the lines so far
abbrev pub invariant-loop-line : goal.invariant-loop-line
invariant-loop-line l = vec_items l.bytes ≡ flat_map line_bytes_of (take l.line-index l.lines)
