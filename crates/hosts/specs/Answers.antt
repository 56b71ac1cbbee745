-- What an order does to a host: one relation between meaning before, order, answer and meaning after.
use Rattle.std.specs.Prelude.{◌≡◌, ℕ, ◌+◌, ◌-◌, ◌<◌, ◌≤◌, Bool, true, false, cond, ◌&&◌, Some, None, Ok, Err, Option, Result, ◌==◌}
use Rattle.model.specs.declared.order.Order.{Order}
use Rattle.model.specs.declared.order.Order.TheVariants.{Create, Bind, Change, Unbind, Delete}
use Rattle.model.specs.Orders.{result_of}
use Rattle.hosts.specs.declared.refusal.Offence.{Offence}
use Rattle.hosts.specs.declared.refusal.Reason.{Reason}
use Rattle.hosts.specs.declared.refusal.Reason.TheVariants.{Busy, Illegal, Gap, Full}
use Rattle.hosts.specs.declared.refusal.Refusal.{Refusal}
use Rattle.hosts.specs.Survey.{Situation, has_gap}
use Rattle.hosts.specs.declared.load.Load.{Load}
use Rattle.hosts.specs.Service.{Service}
use Rattle.hosts.specs.Offences.{refused_if, offence}

-- what a host means
pub record Meaning : Type 0 where
  pub situation : Situation
  pub service : Service

abbrev pub meaning : Situation → Service → Meaning
meaning s v = record { situation = s; service = v }

-- what a host answers to an order: done, or a refusal
abbrev pub Answer : Type 0
Answer = Result (Unit {0}) Refusal

-- the reason of the refusal; none where the order is done
abbrev pub reason_of : Answer → Option Reason
reason_of (Ok x) = None
reason_of (Err e) = Some e.reason

abbrev pub is_done : Answer → Bool
is_done (Ok x) = true
is_done (Err e) = false

-- the layer that refused is at most so high
abbrev pub UpTo : ℕ → Answer → Type 0
UpTo h (Ok x) = Unit {0}
UpTo h (Err e) = e.height ≤ h

abbrev pub is_create : Order → Bool
is_create (Create z t) = true
is_create (Bind b) = false
is_create (Change z q) = false
is_create (Unbind b) = false
is_create (Delete z) = false

abbrev pub is_bind : Order → Bool
is_bind (Create z t) = false
is_bind (Bind b) = true
is_bind (Change z q) = false
is_bind (Unbind b) = false
is_bind (Delete z) = false

-- changes and unbinds are tested for gaps
abbrev pub is_tested : Order → Bool
is_tested (Create z t) = false
is_tested (Bind b) = false
is_tested (Change z q) = true
is_tested (Unbind b) = true
is_tested (Delete z) = false

-- no allowance is left for the order
abbrev pub full_test : Order → Load → Bool
full_test (Create z t) l = l.creations == 0
full_test (Bind b) l = l.bindings == 0
full_test (Change z q) l = false
full_test (Unbind b) l = false
full_test (Delete z) l = false

-- some instance has a gap in the result of the order
abbrev pub leaves_gap : Order → Situation → Bool
leaves_gap o s = has_gap (record { universe = s.universe; config = result_of o s.config })

-- the offence as a reason, if there is one, else what follows
abbrev pub illegal_or : Option Offence → Option Reason → Option Reason
illegal_or (Some e) later = Some (Illegal e)
illegal_or None later = later

-- the rule that refuses an order which is not put off, by rising number: the first that applies, if one does
unfoldable pub decision : Order → Meaning → Option Reason
decision o m =
    illegal_or (offence o m.situation)
    (refused_if (m.service.profile.watchful && (is_tested o && leaves_gap o m.situation)) Gap
    (refused_if (full_test o m.service.load) Full
    None))

-- what stands after the answer: the order's result where it is done, else what stood before
abbrev pub settled : Order → Answer → Situation → Situation
settled o (Ok x) s = record { universe = s.universe; config = result_of o s.config }
settled o (Err e) s = s

-- one order fewer to put off, and all else as it was
abbrev pub waited_once : Meaning → Meaning
waited_once m =
    meaning m.situation (record {
      load = record {
        waits = m.service.load.waits - 1;
        creations = m.service.load.creations;
        bindings = m.service.load.bindings;
      };
      profile = m.service.profile;
    })

-- an allowance falls only where it is spent, and by one at most; it may rise
abbrev pub Spent : Bool → ℕ → ℕ → Type 0
Spent spent before after = before ≤ after + cond spent 1 0

-- what is free: waits afterwards are some number up to the longest wait, only a done create lowers the creation
-- allowance and only a done bind the binding allowance, and a refusal comes from a layer at most as high as the host;
-- where an order is put off, no more than the height is left open by it
pub record Free (o : Order) (m n : Meaning) (r : Answer) : Type 0 where
  pub waits : n.service.load.waits ≤ m.service.profile.longest
  pub creations : Spent (is_done r && is_create o) m.service.load.creations n.service.load.creations
  pub bindings : Spent (is_done r && is_bind o) m.service.load.bindings n.service.load.bindings
  pub height : UpTo m.service.profile.height r

-- the order is put off: busy, one order fewer to put off, and all else as it was
pub record PutOff (o : Order) (m n : Meaning) (r : Answer) : Type 0 where
  pub answer : reason_of r ≡ Some Busy
  pub after : n ≡ waited_once m
  pub free : Free o m n r

-- the order is decided: done exactly if no rule refuses it, else refused by the first that does; a done order leads
-- to its result, a refused one leaves what stood; universe, longest wait, watchful and height never change
pub record Decided (o : Order) (m n : Meaning) (r : Answer) : Type 0 where
  pub answer : reason_of r ≡ decision o m
  pub situation : n.situation ≡ settled o r m.situation
  pub profile : n.service.profile ≡ m.service.profile
  pub free : Free o m n r

-- what an order does: put off while waits are above 0, else decided
pub record Answered (o : Order) (m n : Meaning) (r : Answer) : Type 0 where
  pub busy : 0 < m.service.load.waits → PutOff o m n r
  pub decided : m.service.load.waits ≡ 0 → Decided o m n r

-- the order leads from the host h to the host k with this answer, where s and v tell what a host means
abbrev pub Gives : {H : Type 0} → (H → Situation) → (H → Service) → Order → H → H → Answer → Type 0
Gives s v o h k r = Answered o (meaning (s h) (v h)) (meaning (s k) (v k)) r
