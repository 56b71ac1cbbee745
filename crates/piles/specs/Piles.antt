-- Piles of layers over a cloud: what they mean, what they do, and what is printed of orders to a fresh one.
use Rattle.std.specs.Prelude.{ℕ, min, cond, List, [], ◌∷◌, ◌++◌, Ok, Err, Result}
use Rattle.model.specs.declared.order.Order.{Order}
use Rattle.model.specs.Universe.{Universe}
use Rattle.model.specs.Config.{empty}
use Rattle.universe.specs.declared.tables.Tables.{Tables}
use Rattle.universe.specs.Reading.{Read}
use Rattle.universe.specs.Refusals.{universe_number}
use Rattle.universe.specs.Tables.{universe_of}
use Rattle.hosts.specs.Answers.{Answer, Meaning, meaning}
use Rattle.cloud.specs.Cloud.{CloudState, cloud_after, cloud_answer, cloud_rule, meaning_of}
use Rattle.layers.specs.Verifying.{own_refusal, stopped, watched}
use Rattle.hosting.specs.Hosting.{Reported, order_line_of, survey_line}
use Rattle.console.specs.Refused.{refused_line_of}
use Rattle.options.specs.declared.HostOptions.{HostOptions}
use Rattle.options.specs.declared.Layers.{Layers}
use Rattle.options.specs.declared.Layers.TheVariants.{None, Verifying, VerifyingTwice}

-- an empty cloud with the limits and the delay that are chosen; larger ones count as the largest
abbrev pub fresh_cloud_of : Universe → HostOptions → CloudState
fresh_cloud_of u o = record {
  held = record {
    situation = record { universe = u; config = empty };
    limits = record { instances = min o.instances 256; bindings = min o.bindings 2048 };
  };
  waits = min o.delay 8;
  delay = min o.delay 8;
}

-- what is answered to an order, and what the cloud at the bottom then holds
pub record Outcome : Type 0 where
  pub answer : Answer
  pub after : CloudState

-- a pile over a cloud: what it means and does, by what the cloud holds
pub record Pile : Type 0 where
  pub means : CloudState → Meaning
  pub does : Order → CloudState → Outcome

-- the cloud alone
abbrev pub cloud_alone : Pile
cloud_alone = record {
  means = meaning_of;
  does = λ o k. record { answer = cloud_answer (cloud_rule o k); after = cloud_after o k };
}

-- a verifying layer over a pile: watchful and one higher, and it refuses what it stops, with no order below
abbrev pub verifying : Pile → Pile
verifying p = record {
  means = λ k. let m = p.means k in meaning m.situation (watched m.service);
  does = λ o k. let m = p.means k in cond (stopped o m) (record { answer = Err (own_refusal m); after = k }) (p.does o k);
}

-- the layers over a cloud
abbrev pub pile_of : Layers → Pile
pile_of None = cloud_alone
pile_of Verifying = verifying cloud_alone
pile_of VerifyingTwice = verifying (verifying cloud_alone)

-- what a fresh pile means
abbrev pub fresh : Universe → HostOptions → Meaning
fresh u o = (pile_of o.layers).means (fresh_cloud_of u o)

-- the lines of the orders, one after the other, and then that of what stands
abbrev pub pile_text : Pile → List Order → CloudState → List ℕ
pile_text p [] k = survey_line (p.means k).situation
pile_text p (o ∷ os) k =
    let out = p.does o k in order_line_of o out.answer (p.means out.after).service.load ++ pile_text p os out.after

-- the same for a fresh pile
abbrev pub fresh_text : Universe → HostOptions → List Order → List ℕ
fresh_text u o os = pile_text (pile_of o.layers) os (fresh_cloud_of u o)

-- the text reports orders that were given, one after the other, to a host that meant m, with answers that a host gives
abbrev pub ReportedFrom : List Order → Meaning → List ℕ → Type 0
ReportedFrom os m text = (n : Meaning) × Reported (λ k. k.situation) (λ k. k.service) (λ o h k r. Unit {0}) os m n text

-- what the command tells of a universe file: the lines of a fresh pile of the universe that was read, or the refusal
abbrev pub command_text : List Order → HostOptions → Read Tables → Result (List ℕ) (List ℕ)
command_text os o (Ok held) = Ok (fresh_text (universe_of held) o os)
command_text os o (Err e) = Err (refused_line_of (universe_number e))

-- the universe was read, and the text reports orders given to a fresh pile of it
abbrev pub CommandReported : List Order → HostOptions → Read Tables → List ℕ → Type 0
CommandReported os o (Ok held) text = ReportedFrom os (fresh (universe_of held) o) text
CommandReported os o (Err e) text = ⊥
