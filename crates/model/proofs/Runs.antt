-- Runs keep a configuration well formed and gap-free, and can be cut and joined at any place. Assumes nothing.
use Rattle.std.proofs.Common.{[], ◌∷◌, refl}
use Rattle.model.specs.Orders.{result_of}
use Rattle.model.specs.Runs.{after, RunsFrom}
use Rattle.model.specs.Laws.{RunLaw, PrefixLaw}
use Rattle.model.proofs.Formed.{formed_law}

-- by induction over the orders: each is legal and leaves no gap
pub run_law : RunLaw
unfolding after RunsFrom
run_law u c [] ok wf free r = (wf, free)
run_law u c (o ∷ os) ok wf free r = run_law u (result_of o c) os ok (formed_law u c o ok wf r.0) r.1 r.2

-- by induction over the first part
pub prefix_law : PrefixLaw
unfolding after RunsFrom
prefix_law u c [] ps = ((λ r. (tt, r)), (λ r. r.1), refl)
prefix_law u c (o ∷ os) ps =
    let rest = prefix_law u (result_of o c) os ps in (
      (λ r. let s = rest.0 r.2 in ((r.0, r.1, s.0), s.1)),
      (λ r. (r.0.0, r.0.1, rest.1 (r.0.2, r.1))),
      rest.2,
    )
