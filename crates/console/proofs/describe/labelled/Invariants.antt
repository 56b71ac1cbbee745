use Rattle.std.proofs.Common.{◌≡◌, string_bytes}
use Rattle.console.specs.Described.{list_of}
use Rattle.console.proofs.describe.labelled.Given as goal

abbrev pub invariant-loop-number : goal.invariant-loop-number
invariant-loop-number g l = string_bytes l.list ≡ list_of l.yielded
