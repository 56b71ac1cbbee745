use Rattle.std.proofs.Common.{◌≡◌, drop, vec_items}
use Rattle.scripts.specs.Scripts.{after, packed}
use Rattle.scripts.proofs.pack_orders.Given as goal

-- what is packed and what is left give the whole
abbrev pub invariant-loop-place : goal.invariant-loop-place
invariant-loop-place l = after (vec_items l.bytes) (packed l.place (drop l.place l.orders)) ≡ packed 0 l.orders
