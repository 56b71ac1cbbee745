use Rattle.std.proofs.Common.{◌≡◌}
use Rattle.universe.specs.Held.{universe_in}
use Rattle.sengoruwa_c.specs.Filled.{begun}
use Rattle.sengoruwa_c.specs.Numbers.{entry_number}
use Rattle.sengoruwa_c.proofs.filling.fill_entries.Given as goal

-- so many places are written
abbrev pub invariant-loop-place : goal.invariant-loop-place
invariant-loop-place l = l.entries ≡ begun (entry_number (universe_in l.universe)) l.place l.fn.entries
