-- How the counts of what stands move under orders. Assumes nothing.
use Rattle.std.proofs.Common.{◌≡◌, ℕ, ◌+◌, ◌<◌, ◌≤◌, true, false, ◌≢◌, Some, None, Option, sym, refl, ap, inl, inr}
use Rattle.std.proofs.lemmas.Bool.{cases_eq}
use Rattle.model.specs.declared.pair.Pair.{Pair}
use Rattle.model.specs.declared.order.Order.TheVariants.{Create, Bind, Change, Unbind, Delete}
use Rattle.model.specs.Search.{one}
use Rattle.model.specs.Config.{Config, moved, stands}
use Rattle.model.specs.Counts.{instances, bindings}
use Rattle.model.specs.Orders.{result_of}
use Rattle.model.specs.Laws.{CountLaw}
use Rattle.model.proofs.Results.{Same, create_at, create_off, create_bound, bind_at, bind_inst, bind_off, change_at, change_off, change_bound, unbind_at, unbind_inst, unbind_off, delete_at, delete_bound, delete_off}
use Rattle.model.proofs.Sums.{sum_le, sum_more, sum_most, sum_none, sum_same, one_less}

-- the same numbers stand, as many stand
pub instances_same : (n : ℕ) (c d : Config) → ((z : ℕ) → stands (d.inst z) ≡ stands (c.inst z)) → instances n d ≡ instances n c
unfolding instances
instances_same n c d h = sum_same _ _ n (λ z. ap one (h z))

-- one instance more
pub instances_more : (n : ℕ) (c d : Config) (z : ℕ) → z < n →
    ((y : ℕ) → y ≢ z → stands (d.inst y) ≡ stands (c.inst y)) → stands (c.inst z) ≡ false → stands (d.inst z) ≡ true →
    instances n d ≡ instances n c + 1
unfolding instances
instances_more n c d z low h out into = sum_more _ _ z n low (λ y ne. ap one (h y ne)) (rw (out, into))

pub instances_most : (n : ℕ) (c : Config) → instances n c ≤ n
unfolding instances
instances_most n c = sum_most (λ z. stands (c.inst z)) n

pub instances_none : (n : ℕ) (c : Config) → ((z : ℕ) → c.inst z ≡ None) → instances n c ≡ 0
unfolding instances
instances_none n c h = sum_none _ n (λ z. rw (h z))

module _ (m n : ℕ) (c d : Config) where
  -- the same bindings, as many bindings
  pub bindings_same : ((p x y : ℕ) → d.bound p x y ≡ c.bound p x y) → bindings m n d ≡ bindings m n c
  unfolding bindings
  bindings_same h = sum_same _ _ m (λ p. sum_same _ _ n (λ x. sum_same _ _ n (λ y. ap one (h p x y))))

  -- no further binding, no more bindings
  pub bindings_fewer : ((p x y : ℕ) → one (d.bound p x y) ≤ one (c.bound p x y)) → bindings m n d ≤ bindings m n c
  unfolding bindings
  bindings_fewer h = sum_le _ _ m (λ p. sum_le _ _ n (λ x. sum_le _ _ n (λ y. h p x y)))

  -- one binding more
  pub bindings_more : (p x y : ℕ) → p < m → x < n → y < n →
      ((p' x' y' : ℕ) → (Same p x y p' x' y' → ⊥) → d.bound p' x' y' ≡ c.bound p' x' y') →
      c.bound p x y ≡ false → d.bound p x y ≡ true → bindings m n d ≡ bindings m n c + 1
  unfolding bindings
  bindings_more p x y lp lx ly h out into =
      sum_more _ _ p m lp
      (λ p' ne. sum_same _ _ n (λ x'. sum_same _ _ n (λ y'. ap one (h p' x' y' (λ e. ne e.0)))))
      (sum_more _ _ x n lx
      (λ x' ne. sum_same _ _ n (λ y'. ap one (h p x' y' (λ e. ne e.1))))
      (sum_more _ _ y n ly (λ y' ne. ap one (h p x y' (λ e. ne e.2))) (rw (out, into))))

pub bindings_none : (m n : ℕ) (c : Config) → ((p x y : ℕ) → c.bound p x y ≡ false) → bindings m n c ≡ 0
unfolding bindings
bindings_none m n c h = sum_none _ m (λ p. sum_none _ n (λ x. sum_none _ n (λ y. rw (h p x y))))

-- how a create, a delete and a change move the number of instances
module _ (n : ℕ) (c : Config) (z : ℕ) where
  pub create_counts : (t : ℕ) → z < n → stands (c.inst z) ≡ false → instances n (result_of (Create z t) c) ≡ instances n c + 1
  create_counts t low out =
      instances_more n c (result_of (Create z t) c) z low (λ y ne. ap stands (create_off c z t y ne)) out (ap stands (create_at c z t))

  pub delete_counts : z < n → stands (c.inst z) ≡ true → instances n c ≡ instances n (result_of (Delete z) c) + 1
  delete_counts low into =
      instances_more n (result_of (Delete z) c) c z low (λ y ne. ap stands (sym (delete_off c z y ne))) (ap stands (delete_at c z)) into

  pub change_counts : (q : ℕ) → instances n (result_of (Change z q) c) ≡ instances n c
  change_counts q =
      instances_same n c (result_of (Change z q) c) (λ y. elim (cases_eq y z) [
        | inl e ↦ rw (e, change_at c z q) (still (c.inst z))
        | inr ne ↦ ap stands (change_off c z q y ne)
      ])
    where
      still : (o : Option Pair) → stands (moved o q) ≡ stands o
      still None = refl
      still (Some h) = refl

-- how each legal order moves the counts
pub count_law : CountLaw
count_law m n u c (Create z t) l = λ low. (create_counts n c z t low l.0, bindings_same m n c (result_of (Create z t) c) (create_bound c z t))
count_law m n u c (Bind j) l = λ lp lx ly. (
  instances_same n c (result_of (Bind j) c) (λ z. ap stands (bind_inst c j z)),
  bindings_more m n c (result_of (Bind j) c) j.port j.provider j.requirer lp lx ly (bind_off c j) l.new (bind_at c j),
)
count_law m n u c (Change z q) l = (change_counts n c z q, bindings_same m n c (result_of (Change z q) c) (change_bound c z q))
count_law m n u c (Unbind j) l = λ lp lx ly. (
  instances_same n c (result_of (Unbind j) c) (λ z. ap stands (unbind_inst c j z)),
  bindings_more m n (result_of (Unbind j) c) c j.port j.provider j.requirer lp lx ly
      (λ p' x' y' ne. sym (unbind_off c j p' x' y' ne)) (unbind_at c j) l,
)
count_law m n u c (Delete z) l = λ low. (
  delete_counts n c z low l.stands,
  bindings_fewer m n c (result_of (Delete z) c) (λ p x y. rw (delete_bound c z p x y) (one_less (c.bound p x y) _)),
)
