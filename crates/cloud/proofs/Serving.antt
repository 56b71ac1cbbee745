-- The answers of the cloud are those of a host. Assumes nothing.
use Rattle.std.proofs.Common.{◌≡◌, ℕ, ◌≤◌, Some, None, Option, sym, refl, ◌∙◌, inl, inr, arith}
use Rattle.std.proofs.lemmas.Bool.{le-ltb, lt-ltb}
use Rattle.model.specs.declared.order.Order.{Order}
use Rattle.model.specs.declared.order.Order.TheVariants.{Create, Bind, Change, Unbind, Delete}
use Rattle.hosts.specs.declared.refusal.Reason.{Reason}
use Rattle.hosts.specs.Survey.{Lawful}
use Rattle.hosts.specs.Answers.{Answer, Answered, Decided, Gives, decision, full_test}
use Rattle.hosts.proofs.Deciding.{put_off_or_not}
use Rattle.hosts.proofs.Growing.{growth_law}
use Rattle.table.specs.Table.{Held, applied, lawful_of, load_of, table_rule}
use Rattle.table.proofs.Applying.{no_offence}
use Rattle.cloud.specs.declared.state.Cloud.{Cloud}
use Rattle.cloud.specs.Cloud.{CloudState, CloudTakes, Takes, cloud_after, cloud_answer, cloud_of, cloud_rule, cloud_service, cloud_situation, meaning_of}

-- whether there is room does not hang on waits
full_same : (o : Order) (h : Held) (w : ℕ) → full_test o (load_of 0 h) ≡ full_test o (load_of w h)
full_same (Create z t) h w = refl
full_same (Bind j) h w = refl
full_same (Change z q) h w = refl
full_same (Unbind j) h w = refl
full_same (Delete z) h w = refl

-- the rule of the table is the decision of a host that is not watchful
rule_decides : (o : Order) (k : CloudState) → table_rule o k.held ≡ decision o (meaning_of k)
unfolding table_rule decision
rule_decides o k = rw (full_same o k.held k.waits)

-- the state after an order that is not put off, by the rule that refuses it, if one does
abbrev next : Order → Option Reason → CloudState → CloudState
next o r k = record { held = applied o r k.held; waits = k.delay; delay = k.delay }

decided : (o : Order) (k : CloudState) (r : Option Reason) → Lawful k.held.situation → table_rule o k.held ≡ r →
    Decided o (meaning_of k) (meaning_of (next o r k)) (cloud_answer r)
decided o k None law e =
    let none = no_offence o k.held e in
    let g = growth_law k.held.situation o law none in
    record {
      answer = sym e ∙ rule_decides o k;
      situation = refl;
      profile = refl;
      free = record { waits = omega arith; creations = omega (arith, g.0); bindings = omega (arith, g.1); height = tt };
    }
decided o k (Some x) law e =
    record {
      answer = sym e ∙ rule_decides o k;
      situation = refl;
      profile = refl;
      free = record { waits = omega arith; creations = omega arith; bindings = omega arith; height = omega arith };
    }

-- what the cloud answers is what a host answers
pub answers : (o : Order) (k : CloudState) → Lawful k.held.situation → k.waits ≤ k.delay → Answered o (meaning_of k) (meaning_of (cloud_after o k)) (cloud_answer (cloud_rule o k))
answers o k law most =
    elim (put_off_or_not k.waits) [
      | inl l ↦ rw (lt-ltb 0 k.waits l)
          (record {
            busy = λ p. record { answer = refl; after = refl; free = record { waits = omega arith; creations = omega arith; bindings = omega arith; height = omega arith } };
            decided = λ w. absurd (omega arith);
          })
      | inr w ↦ rw (le-ltb 0 k.waits (omega arith))
          (record {
            busy = λ p. absurd (omega arith);
            decided = λ p. decided o k (table_rule o k.held) law refl;
          })
    ]

served_state : (o : Order) (k k' : CloudState) (r : Answer) → Lawful k.held.situation → k.waits ≤ k.delay → Takes o k k' r → Answered o (meaning_of k) (meaning_of k') r
served_state o k k' r law most t = rw (t.answer, t.after) (answers o k law most)

pub served : (o : Order) (h k : Cloud) (r : Answer) → CloudTakes o h k r → Gives cloud_situation cloud_service o h k r
served o h k r t = served_state o (cloud_of h) (cloud_of k) r (lawful_of h.table) h.bounds t
