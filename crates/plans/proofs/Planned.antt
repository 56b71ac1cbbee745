-- The plan for needed pairs works, and what it ends in. Assumes nothing.
use Rattle.std.proofs.Common.{List, ◌≡◌, ℕ, ◌+◌, ◌<◌, ◌≤◌, not, ◌&&◌, ◌==◌, nat_lt, true, length, get_or, Some, sym, refl, ap, ◌∙◌, inl, inr, arith}
use mathlib.Core.Bool.{and_comm, false≢true}
use Rattle.std.specs.List.{All, slice_get}
use Rattle.std.proofs.lemmas.List.Folds.{list_any_at}
use Rattle.std.proofs.lemmas.Option.{slice_get-get_or, slice_get_past}
use Rattle.std.proofs.lemmas.Bool.{cases_lt, le-ltb, lt-ltb}
use Rattle.model.specs.declared.pair.Pair.{Pair}
use Rattle.model.specs.Config.{Config, pair, provided, required}
use Rattle.model.specs.Universe.{Universe}
use Rattle.plans.specs.Lists.{listed, pair_at, rank_of, same_pair}
use Rattle.plans.specs.Closing.{supplier_rank}
use Rattle.plans.specs.Needs.{path_requires}
use Rattle.plans.specs.Plan.{Plan, Supplied, Works, built, final}
use Rattle.plans.specs.Script.{plan_for}
use Rattle.plans.specs.Goals.{Attained, Met}
use Rattle.plans.proofs.Closed.{Closed}
use Rattle.plans.proofs.Ranks.{listed_at, listed_rank, rank_low, same_self}
use Rattle.plans.proofs.Paths.{path_last, path_passable}
use Rattle.plans.proofs.Needing.{Sufficient}

-- what holds of each listed pair holds of all
all_listed : (P : Pair → Type 0) (l : List Pair) → ((h : Pair) → listed l h ≡ true → P h) → All P l
all_listed P l each k d low =
    let h = get_or l k d in
    each h (list_any_at (same_pair h) l k d low (same_self h))

module _ (u : Universe) (l : List Pair) (c : Closed u l) (ns : List Pair) (n : Sufficient u l ns) where
  abbrev plan : Plan
  plan = plan_for u l ns

  -- the pair of an instance is listed
  at_listed : (z : ℕ) → z < length ns → listed l (pair_at ns z) ≡ true
  at_listed z low = n.sub (pair_at ns z) (listed_at ns z low)

  -- each instance ends in its pair
  pub plan_final : (z : ℕ) → z < length ns → final (plan_for u l ns) z ≡ pair_at ns z
  plan_final z low = ap (pair (pair_at ns z).kind) (path_last u l c (pair_at ns z) (at_listed z low))

  -- what stands once the instances below m are built
  plan_built : (m x : ℕ) → x < m → m ≤ length ns → built plan m x ≡ Some (pair_at ns x)
  plan_built m x lt le = rw (le-ltb x 0 (omega arith), lt-ltb x m lt) (ap Some (plan_final x (omega arith)))

  -- each port that is required on the path of an instance is supplied
  plan_supplied : (z p : ℕ) → z < length ns → path_requires u l (pair_at ns z) p ≡ true → Supplied u plan z p
  plan_supplied z p low r =
      let s = n.supplies (pair_at ns z) p (listed_at ns z low) r in
      let before = s.before in
      let rank = n.once z low in
      let under : plan.supplier p < z = omega arith in
      let there = plan_built z (plan.supplier p) under (omega arith) ∙ ap Some (listed_rank ns _ s.member) in
      record { before = under; provides = ap (provided u p) there ∙ s.gives }

  -- the plan works
  pub plan_works : Works u (plan_for u l ns)
  plan_works = record {
    sound = λ z p gap. absurd (false≢true gap.requires);
    inst = λ z le. refl;
    bound = λ p x y b. absurd (false≢true b);
    kind = λ z le low. (c.pairs (pair_at ns z) (at_listed z (omega arith))).0;
    path = λ z le low.
        path_passable u l c (pair_at ns z) (at_listed z (omega arith)) plan z refl (λ p r. plan_supplied z p (omega arith) r);
  }

  -- once all are built, there stands under each number the pair of that rank
  pub plan_instances : (z : ℕ) → built (plan_for u l ns) (0 + length ns) z ≡ slice_get ns z
  plan_instances z =
      elim (cases_lt z (length ns)) [
        | inl lt ↦ plan_built (0 + length ns) z (omega arith) (omega arith) ∙ sym (slice_get-get_or ns z (pair 0 0) lt)
        | inr ge ↦ rw (le-ltb z 0 (omega arith), le-ltb z (0 + length ns) (omega arith)) (sym (slice_get_past ns z ge))
      ]

  -- and the bindings of the instances from number 0 on, of each at the ports that its pair requires and to their
  -- suppliers, are those of the pairs
  pub plan_bindings : (p x y : ℕ) →
      (x == rank_of ns (pair_at l (supplier_rank u l p)) &&
      (not (nat_lt y 0) && required u p (built (plan_for u l ns) (0 + length ns) y)))
      ≡ (required u p (slice_get ns y) && (x == rank_of ns (pair_at l (supplier_rank u l p))))
  plan_bindings p x y =
      rw (plan_instances y, le-ltb y 0 (omega arith))
      (and_comm (x == rank_of ns (pair_at l (supplier_rank u l p))) (required u p (slice_get ns y)))

  -- where those stand, a goal whose pairs are all among them is met
  pub plan_meets : (goal : List Pair) → ((h : Pair) → listed goal h ≡ true → listed ns h ≡ true) →
      (k : Config) → ((z : ℕ) → k.inst z ≡ slice_get ns z) → Met goal k
  plan_meets goal among k stands = all_listed (Attained k) goal (λ h w.
      let m = among h w in
      let z = rank_of ns h in
      (z, stands z ∙ slice_get-get_or ns z (pair 0 0) (rank_low ns h m) ∙ ap Some (listed_rank ns h m)))
