-- What holds at each place of a run, and that each step keeps it. Assumes nothing.
use Rattle.std.proofs.Common.{◌≡◌, ℕ, ◌+◌, ◌≤◌, List, [], ◌∷◌, Ok, Err, Some, None, Option, take, drop, length, slice_get, refl, sym, ap, ◌∙◌, subst, arith}
use Rattle.model.specs.declared.order.Order.{Order}
use Rattle.model.specs.Config.{WellFormed}
use Rattle.model.specs.Gaps.{GapFree}
use Rattle.model.specs.Orders.{Legal, result_of}
use Rattle.model.specs.Runs.{after, RunsFrom}
use Rattle.model.proofs.Formed.{formed_law}
use Rattle.model.proofs.Runs.{prefix_law}
use Rattle.hosts.specs.Survey.{Situation, Lawful, bindings_of}
use Rattle.hosts.specs.Service.{Sane}
use Rattle.hosts.specs.Offences.{offence}
use Rattle.hosts.specs.Answers.{Answer, Meaning, reason_of}
use Rattle.hosts.specs.Laws.{Expected, InRange}
use Rattle.hosts.proofs.Offending.{lawful_after}
use Rattle.hosts.proofs.Deciding.{done_law, expected_law, kept_law, refused_law}
use Rattle.execution.specs.Steps.{Ordered, Progress, Stepped, begun, ended_between}
use Rattle.execution.specs.Laws.{AsExpected, Start}
use Rattle.execution.proofs.Ending.{ended_law, ended_same}
use Rattle.execution.proofs.Lines.{line_all, line_done, line_left, line_within}

-- where the order leads from what stands
abbrev led : Order → Situation → Situation
led o s = record { universe = s.universe; config = result_of o s.config }

-- s stands at the place i of a run of the script from first
pub record At (os : List Order) (first : Situation) (i : ℕ) (s : Situation) : Type 0 where
  pub lawful : Lawful s
  pub formed : WellFormed s.universe s.config
  pub gap_free : GapFree s.universe s.config
  pub run : RunsFrom s.universe s.config (drop i os)
  pub stands : s ≡ record { universe = first.universe; config = after first.config (take i os) }

module _ (os : List Order) (first : Situation) where
  -- place and what stands may be written otherwise
  at_same : (i j : ℕ) (s t : Situation) → j ≡ i → t ≡ s → At os first i s → At os first j t
  at_same i j s t p q h = subst (λ k. At os first k t) (sym p) (subst (λ k. At os first i k) (sym q) h)

  module _ (i : ℕ) (s : Situation) (h : At os first i s) (o : Order) (e : slice_get os i ≡ Some o) where
    -- the line at the place is legal and leaves no gap, and from its result those that are then left are a run
    line_runs : Legal s.universe s.config o × GapFree s.universe (result_of o s.config) ×
        RunsFrom s.universe (result_of o s.config) (drop (i + 1) os)
    unfolding RunsFrom
    line_runs = subst (λ ps. RunsFrom s.universe s.config ps) (line_left os i o e) h.run

    -- the lines up to the next place lead to its result
    line_leads : after first.config (take (i + 1) os) ≡ result_of o (after first.config (take i os))
    unfolding after
    line_leads =
        ap (after first.config) (line_done os i o e) ∙
        (prefix_law first.universe first.config (take i os) (o ∷ [])).2

    -- its result stands at the next place
    at_next : offence o s ≡ None → At os first (i + 1) (led o s)
    at_next none =
        let r = line_runs in
        record {
          lawful = lawful_after s h.lawful o none;
          formed = formed_law s.universe s.config o h.lawful.valid h.formed r.0;
          gap_free = r.1;
          run = r.2;
          stands =
              ap (led o) h.stands ∙
              ap (λ c. record { universe = first.universe; config = c }) (sym line_leads);
        }

-- what holds of how far a run from m has come
pub record Kept (os : List Order) (m : Meaning) (a : Progress) : Type 0 where
  pub at : At os m.situation a.place a.host.situation
  pub place : a.place ≤ length os
  pub sane : Sane a.host.service
  pub profile : a.host.service.profile ≡ m.service.profile
  pub leases : a.made + bindings_of m.situation ≡ bindings_of a.host.situation + a.ended

module _ (os : List Order) (m : Meaning) (start : Start os m) where
  -- it holds at the start
  pub kept_first : Kept os m (begun m)
  unfolding after
  kept_first =
      record {
        at = record {
          lawful = start.lawful;
          formed = start.formed;
          gap_free = start.gap_free;
          run = start.run;
          stands = refl;
        };
        place = omega arith;
        sane = start.sane;
        profile = refl;
        leases = omega arith;
      }

  module _ (a b : Progress) (k : Kept os m a) (o : Order) (e : slice_get os a.place ≡ Some o) where
    -- the answer to the line at the place is done, busy or full
    kept_expected : (r : Answer) → Ordered o a r b → Expected (reason_of r)
    kept_expected r h =
        let l = line_runs os m.situation a.place a.host.situation k.at o e in
        let low = line_all os a.place o e InRange start.range in
        expected_law o a.host b.host r k.at.lawful k.at.formed l.0 low l.1 h.host

    -- the host keeps what no answer alters
    kept_service : (r : Answer) → Ordered o a r b →
        (b.host.service.profile ≡ m.service.profile) × Sane b.host.service
    kept_service r h = let s = kept_law o a.host b.host r k.sane h.host in (s.1 ∙ k.profile, s.2)

    -- what is done leads to the next place, and anything else leaves the place and what stands
    kept_line : (r : Answer) → Ordered o a r b → Kept os m b
    kept_line (Ok x) h =
        let d = done_law o a.host b.host (Ok x) h.host refl in
        let next = at_next os m.situation a.place a.host.situation k.at o e d.1 in
        let s = kept_service (Ok x) h in
        let low = line_within os a.place o e in
        let now = ap bindings_of d.2 in
        let gone = ap (λ (t : Situation). ended_between a.host.situation.config t.config) d.2 in
        let law = ended_law a.host.situation o k.at.lawful d.1 in
        record {
          at = at_same os m.situation (a.place + 1) b.place _ b.host.situation h.place d.2 next;
          place = omega (arith, h.place);
          sane = s.1;
          profile = s.0;
          leases = omega (arith, h.made, h.ended, k.leases);
        }
    kept_line (Err y) h =
        let stays = refused_law o a.host b.host (Err y) y.reason h.host refl in
        let s = kept_service (Err y) h in
        let now = ap bindings_of stays in
        let gone = ap (λ (t : Situation). ended_between a.host.situation.config t.config) stays in
        let law = ended_same a.host.situation.config in
        let still : b.place ≡ a.place = omega (arith, h.place) in
        record {
          at = at_same os m.situation a.place b.place a.host.situation b.host.situation still stays k.at;
          place = omega (arith, k.place);
          sane = s.1;
          profile = s.0;
          leases = omega (arith, h.made, h.ended, k.leases);
        }

  -- each step keeps it, and has an answer as expected, if it has one
  pub kept_step : (a b : Progress) (o : Option Order) (r : Option Answer) → slice_get os a.place ≡ o →
      Kept os m a → Stepped o a r b → Kept os m b × AsExpected r
  kept_step a b (Some o) (Some r) e k h = (kept_line a b k o e r h, kept_expected a b k o e r h)
  kept_step a b (Some o) None e k h = absurd h
  kept_step a b None (Some r) e k h = absurd h
  kept_step a b None None e k h = (subst (λ c. Kept os m c) (sym h) k, tt)
