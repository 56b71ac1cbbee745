use Rattle.std.proofs.Common.{◌≡◌, ℕ, ◌≤◌}
use Rattle.table.specs.Rows.{Kept, row}
use Rattle.table.proofs.rows.keep_others.Given as goal

abbrev pub invariant-loop-i : goal.invariant-loop-i
invariant-loop-i l =
    Kept l.initial.rows l.rows l.i l.left l.instance l.dropped ×
    ((k : ℕ) → l.i ≤ k → row l.rows k ≡ row l.initial.rows k)
