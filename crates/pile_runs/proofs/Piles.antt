-- Fresh piles are starts, and what they do gives runs. Assumes nothing.
use Rattle.std.proofs.Common.{◌≡◌, ℕ, zero, suc, ◌+◌, ◌*◌, ◌≤◌, min, List, length, Some, None, Option, slice_get, refl, ap, inl, inr, arith}
use mathlib.Core.Bool.{false≢true}
use Rattle.std.proofs.lemmas.Bool.{cases_Bool}
use Rattle.model.specs.declared.order.Order.{Order}
use Rattle.model.specs.Config.{empty}
use Rattle.model.specs.Universe.{Universe, Valid}
use Rattle.model.proofs.Counting.{bindings_none, instances_none}
use Rattle.hosts.specs.declared.load.Load.{Load}
use Rattle.hosts.specs.Survey.{Lawful, Situation}
use Rattle.hosts.specs.Service.{Sane, Service}
use Rattle.hosts.specs.Answers.{Answered, Gives}
use Rattle.hosts.proofs.Deciding.{kept_law, stands_law}
use Rattle.cloud.specs.Cloud.{CloudState, meaning_of}
use Rattle.cloud.proofs.Serving.{answers}
use Rattle.table.specs.Table.{load_of}
use Rattle.layers.specs.Verifying.{Relays, stopped, watched_sane}
use Rattle.layers.proofs.Relaying.{relayed_answers}
use Rattle.execution.specs.Steps.{Stepped, Steps}
use Rattle.execution.proofs.Laws.{ends_law}
use Rattle.options.specs.declared.HostOptions.{HostOptions}
use Rattle.options.specs.declared.Layers.{Layers}
use Rattle.options.specs.declared.Layers.TheVariants.{None as NoLayer, Verifying, VerifyingTwice}
use Rattle.piles.specs.Piles.{Pile, cloud_alone, fresh, fresh_cloud_of, pile_of, verifying}
use Rattle.executor.specs.Steps.{Running, beginning}
use Rattle.pile_runs.specs.Piles.{next_progress, pile_progress, pile_step, pile_steps}
use Rattle.pile_runs.specs.Laws.{PileCoversLaw, PileEndsLaw, PileRunsLaw, PileStartLaw}
use Rattle.passing.proofs.Starting.{start_law}

-- what a cloud holds keeps the law of surveys, and its waits are up to the delay
pub record Good (k : CloudState) : Type 0 where
  pub lawful : Lawful k.held.situation
  pub waits : k.waits ≤ k.delay

-- a pile is a host: it means what the cloud holds, keeps the law of hosts, and answers as a host does, from all that is
-- good to what is good
pub record IsHost (p : Pile) : Type 0 where
  pub situation : (k : CloudState) → (p.means k).situation ≡ k.held.situation
  pub load : (k : CloudState) → (p.means k).service.load ≡ load_of k.waits k.held
  pub longest : (k : CloudState) → (p.means k).service.profile.longest ≡ k.delay
  pub sane : (k : CloudState) → Good k → Sane (p.means k).service
  pub answered : (o : Order) (k : CloudState) → Good k →
      Answered o (p.means k) (p.means (p.does o k).after) (p.does o k).answer
  pub good : (o : Order) (k : CloudState) → Good k → Good (p.does o k).after

-- what a good cloud means keeps the law of hosts
cloud_sane : (k : CloudState) → Good k → Sane (meaning_of k).service
cloud_sane k g = record { waits = g.waits; height = omega arith }

-- the cloud alone is a host
cloud_host : IsHost cloud_alone
cloud_host = record {
  situation = λ k. refl;
  load = λ k. refl;
  longest = λ k. refl;
  sane = cloud_sane;
  answered = λ o k g. answers o k g.lawful g.waits;
  good = λ o k g.
      let a = answers o k g.lawful g.waits in
      record { lawful = stands_law o _ _ _ g.lawful a; waits = (kept_law o _ _ _ (cloud_sane k g) a).2.waits };
}

module _ (p : Pile) (h : IsHost p) where
  -- the two parts of what the pile means
  abbrev stands : CloudState → Situation
  stands k = (p.means k).situation

  abbrev served : CloudState → Service
  served k = (p.means k).service

  -- what a layer does with an order is what it relays
  relays : (o : Order) (k : CloudState) → Good k →
      let out = (verifying p).does o k in Relays stands served (Gives stands served) o k out.after out.answer
  relays o k g = record { stops = λ e. rw e (refl, refl); passes = λ e. rw e (h.answered o k g) }

  -- and a layer over a host is a host
  layer_host : IsHost (verifying p)
  layer_host = record {
    situation = h.situation;
    load = h.load;
    longest = h.longest;
    sane = λ k g. watched_sane (p.means k).service (h.sane k g);
    answered = λ o k g. relayed_answers stands served o k _ _ (h.sane k g) (relays o k g);
    good = λ o k g. elim (cases_Bool (stopped o (p.means k))) [ inl e ↦ rw e g | inr e ↦ rw e (h.good o k g) ];
  }

  -- a step of a pile is a step of a run, and leads from what is good to what is good
  stepped : (o : Option Order) (a : Running CloudState) → Good a.host →
      Stepped o (pile_progress p a) (pile_step p o a).answer (pile_step p o a).progress × Good (next_progress p o a).host ×
      ((pile_step p o a).progress ≡ pile_progress p (next_progress p o a))
  stepped (Some o) a g =
      (record { host = h.answered o a.host g; place = refl; made = refl; ended = refl }, h.good o a.host g, refl)
  stepped None a g = (refl, g, refl)

  -- so its steps are those of a run
  steps : (os : List Order) (n : ℕ) (a : Running CloudState) → Good a.host →
      Steps os (pile_progress p a) (pile_steps p (slice_get os) a n) × (length (pile_steps p (slice_get os) a n) ≡ n)
  unfolding Steps pile_steps
  steps os zero a g = (tt, refl)
  steps os (suc n) a g =
      let s = stepped (slice_get os a.place) a g in
      let t = steps os n (next_progress p (slice_get os a.place) a) s.1 in
      ((s.0, rw s.2 t.0), omega (arith, t.1))

-- every pile is a host
pub pile_host : (l : Layers) → IsHost (pile_of l)
pile_host NoLayer = cloud_host
pile_host Verifying = layer_host _ cloud_host
pile_host VerifyingTwice = layer_host _ (layer_host _ cloud_host)

-- a fresh cloud is good
pub fresh_good : (u : Universe) (o : HostOptions) → Valid u → Good (fresh_cloud_of u o)
fresh_good u o ok = record {
  lawful = record { valid = ok; inst = λ z out. refl; bound = λ p x y b. absurd (false≢true b) };
  waits = omega arith;
}

-- a fresh pile means an empty host of the universe
pub pile_start_law : PileStartLaw
pile_start_law u o xs os ok passes =
    let h = pile_host o.layers in
    let good = fresh_good u o ok in
    let is = h.situation (fresh_cloud_of u o) in
    start_law xs os (fresh u o) (rw is good.lawful) (h.sane _ good) (ap (λ (s : Situation). s.config) is) (rw is passes)

-- and its steps are those of a run from there
pub pile_runs_law : PileRunsLaw
pile_runs_law u o os n ok =
    let k = fresh_cloud_of u o in steps (pile_of o.layers) (pile_host o.layers) os n (beginning k) (fresh_good u o ok)

-- a fresh cloud allows as much as its limits
fresh_load : (u : Universe) (o : HostOptions) →
    ((fresh u o).service.load.creations ≡ min o.instances 256) × ((fresh u o).service.load.bindings ≡ min o.bindings 2048)
fresh_load u o =
    let h = (pile_host o.layers).load (fresh_cloud_of u o) in
    let creations = ap (λ (l : Load). l.creations) h in
    let bindings = ap (λ (l : Load). l.bindings) h in (
      omega (arith, creations, instances_none 256 empty (λ z. refl)),
      omega (arith, bindings, bindings_none 32 256 empty (λ p x y. refl)),
    )

-- so they cover what its limits cover
pub pile_covers_law : PileCoversLaw
pile_covers_law u o os few less = let l = fresh_load u o in rw (l.0, l.1) (few, less)

-- and the run comes to its end
pub pile_ends_law : PileEndsLaw
pile_ends_law u o xs os ok passes few less =
    let r = pile_runs_law u o os (length os * (min o.delay 8 + 1)) ok in
    let w = (pile_host o.layers).longest (fresh_cloud_of u o) in
    ends_law os (fresh u o) _ (pile_start_law u o xs os ok passes) r.0 (pile_covers_law u o os few less) (rw (w, r.1) (omega arith))
