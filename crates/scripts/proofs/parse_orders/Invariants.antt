use Rattle.std.proofs.Common.{◌≡◌, ◌+◌, drop, length, vec_items}
use Rattle.scripts.specs.Scripts.{after, orders_from, orders_of}
use Rattle.scripts.proofs.ParseTurns.{pieces}
use Rattle.scripts.proofs.parse_orders.Given as goal

-- what is read and what is left give the whole
abbrev pub invariant-loop-before : goal.invariant-loop-before
invariant-loop-before l =
    let n = length l.yielded in
    after (vec_items l.orders) (orders_from (n + 1) (drop n (pieces l.text))) ≡ orders_of l.text
