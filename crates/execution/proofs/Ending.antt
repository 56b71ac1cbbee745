-- How many bindings a done order ends. Assumes nothing.
use Rattle.std.proofs.Common.{◌≡◌, ℕ, zero, suc, ◌+◌, ◌<◌, Bool, true, false, cond, not, ◌&&◌, None, refl, ◌∙◌, arith}
use mathlib.Core.Bool.{false≢true}
use Rattle.model.specs.declared.order.Order.{Order}
use Rattle.model.specs.declared.order.Order.TheVariants.{Create, Bind, Change, Unbind, Delete}
use Rattle.model.specs.Search.{one, sum_below}
use Rattle.model.specs.Config.{Config}
use Rattle.model.specs.Counts.{bindings}
use Rattle.model.specs.Orders.{result_of}
use Rattle.model.proofs.Counting.{bindings_none, bindings_same, count_law}
use Rattle.model.proofs.Results.{bind_keeps, change_bound, create_bound, delete_was, unbind_was}
use Rattle.hosts.specs.Survey.{Situation, Lawful}
use Rattle.hosts.specs.Offences.{offence}
use Rattle.hosts.specs.Answers.{is_bind}
use Rattle.hosts.proofs.Offending.{bind_range, offence_none}
use Rattle.execution.specs.Steps.{ended_between}

-- where each term is two others together, so is the sum
sum_parts : (f g h : ℕ → ℕ) (n : ℕ) → ((y : ℕ) → f y + g y ≡ h y) → sum_below f n + sum_below g n ≡ sum_below h n
unfolding sum_below
sum_parts f g h zero e = refl
sum_parts f g h (suc n) e = let before = sum_parts f g h n e in let here = e n in omega arith

-- where each binding of c stands in a or in b and none in both, those of a and b together are as many as those of c
bindings_parts : (m n : ℕ) (a b c : Config) →
    ((p x y : ℕ) → one (a.bound p x y) + one (b.bound p x y) ≡ one (c.bound p x y)) →
    bindings m n a + bindings m n b ≡ bindings m n c
unfolding bindings
bindings_parts m n a b c h =
    sum_parts _ _ _ m (λ p. sum_parts _ _ _ n (λ x. sum_parts _ _ _ n (λ y. h p x y)))

-- where b implies a, either b or a without b is one exactly if a is
one_parts : (a b : Bool) → (b ≡ true → a ≡ true) → one b + one (a && not b) ≡ one a
one_parts true true h = refl
one_parts true false h = refl
one_parts false true h = absurd (false≢true (h refl))
one_parts false false h = refl

-- where a implies b, there is no a without b
none_ended : (a b : Bool) → (a ≡ true → b ≡ true) → (a && not b) ≡ false
none_ended true true h = refl
none_ended true false h = absurd (false≢true (h refl))
none_ended false b h = refl

module _ (c d : Config) where
  -- where no binding is new, those that stand and those that ended are those that stood
  ended_fewer : ((p x y : ℕ) → d.bound p x y ≡ true → c.bound p x y ≡ true) →
      bindings 32 256 d + ended_between c d ≡ bindings 32 256 c
  ended_fewer h = bindings_parts 32 256 d _ c (λ p x y. one_parts (c.bound p x y) (d.bound p x y) (h p x y))

  -- where every binding stays, none ended
  ended_none : ((p x y : ℕ) → c.bound p x y ≡ true → d.bound p x y ≡ true) → ended_between c d ≡ 0
  ended_none h = bindings_none 32 256 _ (λ p x y. none_ended (c.bound p x y) (d.bound p x y) (h p x y))

-- nothing ends where nothing changes
pub ended_same : (c : Config) → ended_between c c ≡ 0
ended_same c = ended_none c c (λ p x y e. e)

-- the bindings that stand after an order without offence and those that it ends are those that stood before, and one
-- more if it is a bind
pub ended_law : (s : Situation) (o : Order) → Lawful s → offence o s ≡ None →
    bindings 32 256 (result_of o s.config) + ended_between s.config (result_of o s.config) ≡
    bindings 32 256 s.config + cond (is_bind o) 1 0
ended_law s (Create z t) law e =
    let d = result_of (Create z t) s.config in
    let same = bindings_same 32 256 s.config d (create_bound s.config z t) in
    let none = ended_none s.config d (λ p x y b. create_bound s.config z t p x y ∙ b) in
    omega arith
ended_law s (Bind j) law e =
    let d = result_of (Bind j) s.config in
    let r = bind_range s law j e in
    let legal = (offence_none s law (Bind j) e).0 in
    let low : j.port < 32 = omega (arith, r.0, law.valid.ports) in
    let more = count_law 32 256 s.universe s.config (Bind j) legal low r.1 r.2 in
    let none = ended_none s.config d (bind_keeps s.config j) in
    omega (arith, more.1)
ended_law s (Change z q) law e =
    let d = result_of (Change z q) s.config in
    let same = bindings_same 32 256 s.config d (change_bound s.config z q) in
    let none = ended_none s.config d (λ p x y b. change_bound s.config z q p x y ∙ b) in
    omega arith
ended_law s (Unbind j) law e =
    let fewer = ended_fewer s.config (result_of (Unbind j) s.config) (unbind_was s.config j) in
    omega arith
ended_law s (Delete z) law e =
    let fewer = ended_fewer s.config (result_of (Delete z) s.config) (λ p x y b. (delete_was s.config z p x y b).0) in
    omega arith
