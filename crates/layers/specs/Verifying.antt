-- The verifying layer, in terms of the host below.
use Rattle.std.specs.Prelude.{◌≡◌, Bool, true, false, not, ◌&&◌, is_some, Err, ◌==◌}
use Rattle.std.proofs.Common.{arith}
use Rattle.model.specs.declared.order.Order.{Order}
use Rattle.hosts.specs.declared.refusal.Reason.TheVariants.{Gap}
use Rattle.hosts.specs.declared.refusal.Refusal.{Refusal}
use Rattle.hosts.specs.Survey.{Situation}
use Rattle.hosts.specs.Service.{Service, Sane, above}
use Rattle.hosts.specs.Offences.{offence}
use Rattle.hosts.specs.Answers.{Meaning, Answer, is_tested, leaves_gap, meaning}

-- watchful and one layer higher; all else as below
abbrev pub watched : Service → Service
watched v = record {
  load = v.load;
  profile = record { longest = v.profile.longest; watchful = true; height = above v.profile.height };
}

-- the law of hosts, from that of the host below
pub watched_sane : (v : Service) → Sane v → Sane (watched v)
watched_sane v s = record { waits = s.waits; height = omega arith }

-- the order is one that the layer stops: it is tested for gaps, would not be put off, has no offence, and leaves a gap
abbrev pub stopped : Order → Meaning → Bool
stopped o m =
    is_tested o && (m.service.load.waits == 0 && not (is_some (offence o m.situation)) && leaves_gap o m.situation)

-- the layer's own refusal, where m tells what the host below means
abbrev pub own_refusal : Meaning → Refusal
own_refusal m = record { reason = Gap; height = above m.service.profile.height }

-- what the layer does: an order that it stops it refuses at its own height, and leaves the host below as it is; with
-- every other the host below does just what it does, and what that answers is answered
pub record Relayed {B : Type 0} (below : Order → B → B → Answer → Type 0) (o : Order) (m : Meaning) (before after : B) (r : Answer) : Type 0 where
  pub stops : stopped o m ≡ true → (after ≡ before) × (r ≡ Err (own_refusal m))
  pub passes : stopped o m ≡ false → below o before after r

-- the layer leads the host below from h to k with this answer, where s and v tell what a host means and `below` what it
-- does
abbrev pub Relays : {B : Type 0} → (B → Situation) → (B → Service) → (Order → B → B → Answer → Type 0) → Order → B → B → Answer → Type 0
Relays s v below o h k r = Relayed below o (meaning (s h) (v h)) h k r
