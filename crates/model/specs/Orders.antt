-- The five orders: when each is legal, and what it makes of a configuration.
use Rattle.std.specs.Prelude.{◌≡◌, ℕ, ◌<◌, Bool, true, false, cond, not, ◌&&◌, ◌||◌, ◌≢◌, Some, None, ◌==◌}
use Rattle.model.specs.declared.order.Order.{Order}
use Rattle.model.specs.declared.order.Order.TheVariants.{Create, Bind, Change, Unbind, Delete}
use Rattle.model.specs.Universe.{Universe}
use Rattle.model.specs.Config.{Config, pair, stands, passes, moved, ever_provides, ever_requires}

-- both ends stand and differ, some state of the provider's type provides the port,
-- some state of the requirer's type requires it, and the binding does not stand
pub record Bindable (u : Universe) (c : Config) (p x y : ℕ) : Type 0 where
  pub apart : x ≢ y
  pub provider : ever_provides u p (c.inst x) ≡ true
  pub requirer : ever_requires u p (c.inst y) ≡ true
  pub new : c.bound p x y ≡ false

-- the instance stands and is the provider of no binding
pub record Deletable (c : Config) (z : ℕ) : Type 0 where
  pub stands : stands (c.inst z) ≡ true
  pub unused : (p y : ℕ) → c.bound p z y ≡ false

-- the order is legal
abbrev pub Legal : Universe → Config → Order → Type 0
Legal u c (Create z t) = (stands (c.inst z) ≡ false) × (t < u.types)
Legal u c (Bind b) = Bindable u c b.port b.provider b.requirer
Legal u c (Change z q) = passes (c.inst z) (λ h. u.next h.kind h.state q) ≡ true
Legal u c (Unbind b) = c.bound b.port b.provider b.requirer ≡ true
Legal u c (Delete z) = Deletable c z

-- the function f, but a at z
abbrev pub put : {A : Type 0} → (ℕ → A) → ℕ → A → ℕ → A
put f z a y = cond (y == z) a (f y)

-- two bindings are one
abbrev pub same : ℕ → ℕ → ℕ → ℕ → ℕ → ℕ → Bool
same p x y p' x' y' = p == p' && x == x' && y == y'

-- what the order makes of the configuration
unfoldable pub result_of : Order → Config → Config
result_of (Create z t) c = record { inst = put c.inst z (Some (pair t 0)); bound = c.bound }
result_of (Bind b) c = record { inst = c.inst; bound = λ p' x' y'. c.bound p' x' y' || same b.port b.provider b.requirer p' x' y' }
result_of (Change z q) c = record { inst = put c.inst z (moved (c.inst z) q); bound = c.bound }
result_of (Unbind b) c = record { inst = c.inst; bound = λ p' x' y'. c.bound p' x' y' && not (same b.port b.provider b.requirer p' x' y') }
result_of (Delete z) c = record { inst = put c.inst z None; bound = λ p' x' y'. c.bound p' x' y' && not (y' == z) }
