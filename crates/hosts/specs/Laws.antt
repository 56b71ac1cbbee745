-- The laws of the interface, for all code above it. They speak of cases, not of numbers.
use Rattle.std.specs.Prelude.{◌≡◌, ◌+◌, ◌<◌, ◌≤◌, true, false, cond, Some, None, Option, ◌≢◌}
use Rattle.model.specs.declared.order.Order.{Order}
use Rattle.model.specs.declared.order.Order.TheVariants.{Create, Bind, Change, Unbind, Delete}
use Rattle.model.specs.Config.{WellFormed}
use Rattle.model.specs.Gaps.{GapFree}
use Rattle.model.specs.Counts.{instances, bindings}
use Rattle.model.specs.Orders.{Legal, result_of}
use Rattle.hosts.specs.declared.refusal.Reason.{Reason}
use Rattle.hosts.specs.declared.refusal.Reason.TheVariants.{Busy, Illegal, Gap, Full}
use Rattle.hosts.specs.Survey.{Situation, Lawful}
use Rattle.hosts.specs.declared.load.Load.{Load}
use Rattle.hosts.specs.Service.{Sane}
use Rattle.hosts.specs.Offences.{offence}
use Rattle.hosts.specs.Answers.{Meaning, Answer, Answered, reason_of, is_done, waited_once, is_create, is_bind, is_tested}

-- every instance number of the order is at most 255
abbrev pub InRange : Order → Type 0
InRange (Create z t) = z < 256
InRange (Bind b) = (b.provider < 256) × (b.requirer < 256)
InRange (Change z q) = z < 256
InRange (Unbind b) = (b.provider < 256) × (b.requirer < 256)
InRange (Delete z) = z < 256

-- an order without offence is legal and in range; in a well-formed configuration every legal order in range has none
abbrev pub LegalLaw : Type 0
LegalLaw =
    (s : Situation) (o : Order) → Lawful s →
    (offence o s ≡ None → Legal s.universe s.config o × InRange o) ×
    (WellFormed s.universe s.config → Legal s.universe s.config o → InRange o → offence o s ≡ None)

-- an order without offence leads to a situation that keeps the law of surveys
abbrev pub LawfulLaw : Type 0
LawfulLaw =
    (s : Situation) (o : Order) → Lawful s → offence o s ≡ None →
    Lawful (record { universe = s.universe; config = result_of o s.config })

-- whatever the order and its answer, what stands at a host keeps the law of surveys
abbrev pub StandsLaw : Type 0
StandsLaw =
    (o : Order) (m n : Meaning) (r : Answer) → Lawful m.situation → Answered o m n r → Lawful n.situation

-- from what is gap-free, an order without offence that is not tested for gaps leads to what is gap-free
abbrev pub UntestedLaw : Type 0
UntestedLaw =
    (o : Order) (s : Situation) → Lawful s → offence o s ≡ None → is_tested o ≡ false → GapFree s.universe s.config →
    GapFree s.universe (result_of o s.config)

-- an order without offence adds at most one instance if it is a create, at most one binding if it is a bind, and else none
abbrev pub GrowthLaw : Type 0
GrowthLaw =
    (s : Situation) (o : Order) → Lawful s → offence o s ≡ None →
    (instances 256 (result_of o s.config) ≤ instances 256 s.config + cond (is_create o) 1 0) ×
    (bindings 32 256 (result_of o s.config) ≤ bindings 32 256 s.config + cond (is_bind o) 1 0)

-- busy comes only while waits are above 0, lowers them by one, and leaves all else
abbrev pub BusyLaw : Type 0
BusyLaw =
    (o : Order) (m n : Meaning) (r : Answer) → Answered o m n r → reason_of r ≡ Some Busy →
    (0 < m.service.load.waits) × (n ≡ waited_once m)

-- done: the order was not put off and had no offence, and its result stands
abbrev pub DoneLaw : Type 0
DoneLaw =
    (o : Order) (m n : Meaning) (r : Answer) → Answered o m n r → reason_of r ≡ None →
    (m.service.load.waits ≡ 0) × (offence o m.situation ≡ None) ×
    (n.situation ≡ record { universe = m.situation.universe; config = result_of o m.situation.config })

-- a refusal leaves what stands
abbrev pub RefusedLaw : Type 0
RefusedLaw =
    (o : Order) (m n : Meaning) (r : Answer) (e : Reason) → Answered o m n r → reason_of r ≡ Some e →
    n.situation ≡ m.situation

-- done, busy or full
abbrev pub Expected : Option Reason → Type 0
Expected None = Unit {0}
Expected (Some Busy) = Unit {0}
Expected (Some (Illegal e)) = ⊥
Expected (Some Gap) = ⊥
Expected (Some Full) = Unit {0}

-- in a well-formed configuration a legal order in range whose result is gap-free is refused only busy or full
abbrev pub ExpectedLaw : Type 0
ExpectedLaw =
    (o : Order) (m n : Meaning) (r : Answer) → Lawful m.situation →
    WellFormed m.situation.universe m.situation.config →
    Legal m.situation.universe m.situation.config o → InRange o →
    GapFree m.situation.universe (result_of o m.situation.config) →
    Answered o m n r → Expected (reason_of r)

-- the allowances cover the order
abbrev pub Covers : Order → Load → Type 0
Covers o l = (cond (is_create o) 1 0 ≤ l.creations) × (cond (is_bind o) 1 0 ≤ l.bindings)

-- an order that the allowances cover is never refused as full
abbrev pub CoveredLaw : Type 0
CoveredLaw =
    (o : Order) (m n : Meaning) (r : Answer) → Covers o m.service.load → Answered o m n r → reason_of r ≢ Some Full

-- universe, longest wait, watchful and height never change, and waits stay up to the longest wait
abbrev pub KeptLaw : Type 0
KeptLaw =
    (o : Order) (m n : Meaning) (r : Answer) → Sane m.service → Answered o m n r →
    (n.situation.universe ≡ m.situation.universe) × (n.service.profile ≡ m.service.profile) × Sane n.service

-- a watchful host that is gap-free stays so, whatever the order and its answer; and once it has done a change or an
-- unbind it is gap-free, whatever stood before
abbrev pub WatchfulLaw : Type 0
WatchfulLaw =
    (o : Order) (m n : Meaning) (r : Answer) → Lawful m.situation → m.service.profile.watchful ≡ true → Answered o m n r →
    (GapFree m.situation.universe m.situation.config → GapFree n.situation.universe n.situation.config) ×
    (is_done r ≡ true → is_tested o ≡ true → GapFree n.situation.universe n.situation.config)
