-- How many instances and bindings stand among the numbers below a bound.
use Rattle.std.specs.Prelude.{ℕ}
use Rattle.model.specs.Search.{sum_below, one}
use Rattle.model.specs.Config.{Config, stands}

-- how many instances below n stand
unfoldable pub instances : ℕ → Config → ℕ
instances n c = sum_below (λ z. one (stands (c.inst z))) n

-- how many bindings stand on the ports below m between instances below n
unfoldable pub bindings : ℕ → ℕ → Config → ℕ
bindings m n c = sum_below (λ p. sum_below (λ x. sum_below (λ y. one (c.bound p x y)) n) n) m
