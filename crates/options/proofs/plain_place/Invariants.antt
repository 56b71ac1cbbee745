use Rattle.std.proofs.Common.{◌≡◌, false, map, string_bytes}
use Rattle.std.specs.Iterator.Adapters.{enumerate_count, enumerate_source}
use Rattle.std.specs.List.{slice_get}
use Rattle.std.specs.Slice.Iter.{iter_rest}
use Rattle.options.specs.Options.{plain_place_of, plain_places}
use Rattle.options.proofs.plain_place.Given as goal

-- what is left has the place
abbrev pub invariant-loop-place : goal.invariant-loop-place
invariant-loop-place l =
    slice_get (plain_places (enumerate_count l.words) false (map string_bytes (iter_rest (enumerate_source l.words)))) l.left
    ≡ plain_place_of l.fn.nth (map string_bytes l.fn.words)
