-- Sets of numbers packed in a field: number 0 is the field's highest bit.
use Rattle.std.specs.Prelude.{ℕ, zero, suc, ◌+◌, ◌-◌, ◌*◌, ◌/◌, ◌%◌, ◌^◌, Bool, cond, ◌&&◌, ◌==◌, nat_le, nat_lt}
use Rattle.model.specs.Search.{any}

-- the number p is in the set packed in a field of w bits
unfoldable pub has : ℕ → ℕ → ℕ → Bool
has w set p = nat_lt p w && (set / 2 ^ (w - 1 - p) % 2) == 1

-- some number from n on is in the set packed in a field of w bits
unfoldable pub has_from : ℕ → ℕ → ℕ → Bool
has_from w set n = any (λ p. nat_le n p && has w set p) w

-- the field of w bits that packs the numbers which pass
unfoldable pub field : ℕ → (ℕ → Bool) → ℕ
field zero f = 0
field (suc w) f = field w f * 2 + cond (f w) 1 0
