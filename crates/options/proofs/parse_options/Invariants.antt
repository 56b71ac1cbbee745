use Rattle.std.proofs.Common.{◌≡◌, None, map, string_bytes}
use Rattle.std.specs.Iterator.Adapters.{enumerate_count, enumerate_source}
use Rattle.std.specs.Slice.Iter.{iter_rest}
use Rattle.options.specs.Options.{given_by, given_from}
use Rattle.options.proofs.parse_options.Given as goal

-- what is left gives the values
abbrev pub invariant-loop-place : goal.invariant-loop-place
invariant-loop-place l =
    given_from l.command (enumerate_count l.words) l.given None (map string_bytes (iter_rest (enumerate_source l.words)))
    ≡ given_by l.fn.command (map string_bytes l.fn.words)
