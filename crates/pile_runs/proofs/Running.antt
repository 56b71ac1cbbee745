-- A run on a pile is what the pile does. Assumes nothing.
use Rattle.std.proofs.Common.{◌≡◌, ℕ, ◌+◌, ◌<◌, ◌≤◌, ◌&&◌, cond, List, [], ◌∷◌, length, map, Some, None, Ok, Option, Result, slice_get, refl, sym, ap, ◌∙◌, arith}
use Rattle.model.specs.declared.order.Order.{Order}
use Rattle.lines.specs.Line.{decoded}
use Rattle.hosts.specs.Survey.{Situation, bindings_of}
use Rattle.hosts.specs.Service.{Service}
use Rattle.hosts.specs.Answers.{Answer, Meaning, is_bind, is_done, meaning}
use Rattle.cloud.specs.Cloud.{CloudState}
use Rattle.execution.specs.Steps.{Progress, ended_between}
use Rattle.execution.specs.Laws.{Start}
use Rattle.executor.specs.declared.fault.StepFault.{StepFault}
use Rattle.executor.specs.Steps.{Given, Running, Takes, TakesAll, answer_at, most, order_at, progress_of}
use Rattle.piles.specs.Piles.{Pile}
use Rattle.piles.proofs.Piling.{IsPile}
use Rattle.runs.specs.Promise.{step_answer, step_answers}
use Rattle.runs.proofs.Following.{Come, given_step, told_at}
use Rattle.pile_runs.specs.Piles.{next_progress, pile_progress, pile_step, pile_steps}
use Rattle.pile_runs.specs.Runs.{pile_reached}

module _ {H : Type 0} (s : H → Situation) (v : H → Service) (does : Order → H → H → Answer → Type 0) (held : H → CloudState) (p : Pile) (is : IsPile s v does held p)
    (xs : List ℕ) (os : List Order) (m : Meaning) (start : Start os m) (told : map decoded xs ≡ map Ok os) (none : bindings_of m.situation ≡ 0)
    (orders : ℕ → Option Order) (same : (i : ℕ) → order_at xs i ≡ orders i) where
  abbrev at : Running H → Progress
  at a = progress_of s v a

  -- a run over the host and one of the pile have come equally far
  pub record Level (j : ℕ) (a : Running H) (k : Running CloudState) : Type 0 where
    pub come : Come s v does xs os m start told none j (at a)
    pub far : at a ≡ pile_progress p k
    pub below : held a.host ≡ k.host

  -- an order that is given leads both equally far
  given_level : (j : ℕ) (a : Running H) (k : Running CloudState) (o : Order) (r : Result (Unit {0}) StepFault) (c : Running H) → j < most → Level j a k →
      slice_get os a.place ≡ Some o → (g : Given s v does o a r c) →
      Level (j + 1) c (next_progress p (Some o) k) × (r ≡ answer_at k.place o (p.does o k.host).answer)
  given_level j a k o r c low l line g =
      let d = given_step s v does xs os m start told none j a o r c low l.come line g in
      let out = is.outcome o a.host c.host g.answer g.exact in
      let answer : g.answer ≡ (p.does o k.host).answer = out.0 ∙ ap (λ q. (p.does o q).answer) l.below in
      let after : held c.host ≡ (p.does o k.host).after = out.1 ∙ ap (λ q. (p.does o q).after) l.below in
      let means : meaning (s c.host) (v c.host) ≡ p.means (p.does o k.host).after = is.means c.host ∙ ap p.means after in
      let next : (at c).host ≡ g.next.host = ap (λ (b : Progress). b.host) d.1 in
      let host : g.next.host ≡ p.means (p.does o k.host).after = sym next ∙ means in
      let before : (at a).host ≡ p.means k.host = ap (λ (b : Progress). b.host) l.far in
      let place : g.next.place ≡ k.place + cond (is_done (p.does o k.host).answer) 1 0 =
      g.ordered.place ∙ ap (λ (b : Progress). b.place + cond (is_done g.answer) 1 0) l.far ∙ ap (λ q. k.place + cond (is_done q) 1 0) answer in
      let made : g.next.made ≡ k.made + cond (is_done (p.does o k.host).answer && is_bind o) 1 0 =
      g.ordered.made ∙ ap (λ (b : Progress). b.made + cond (is_done g.answer && is_bind o) 1 0) l.far ∙ ap (λ q. k.made + cond (is_done q && is_bind o) 1 0) answer in
      let ended : g.next.ended ≡ k.ended + ended_between (p.means k.host).situation.config (p.means (p.does o k.host).after).situation.config =
      g.ordered.ended ∙ ap (λ (b : Progress). b.ended + ended_between b.host.situation.config g.next.host.situation.config) l.far
      ∙ ap (λ (n : Meaning). k.ended + ended_between (p.means k.host).situation.config n.situation.config) host in (
        record {
          come = rw d.1 d.0;
          far = d.1 ∙ (λ i. record { host = host i; place = place i; made = made i; ended = ended i });
          below = after;
        },
        g.told ∙ ap (λ (b : Progress). answer_at b.place o g.answer) l.far ∙ ap (answer_at k.place o) answer,
      )

  -- a step leads both equally far, with the answer of the pile
  step_level : (j : ℕ) (a : Running H) (k : Running CloudState) (line : Option Order) (r : Result (Unit {0}) StepFault) (c : Running H) → j < most → Level j a k →
      slice_get os a.place ≡ line → Takes s v does line a r c →
      Level (j + 1) c (next_progress p line k) × (r ≡ step_answer k.place line (pile_step p line k).answer)
  step_level j a k (Some o) r c low l line g = given_level j a k o r c low l line g
  step_level j a k None r c low l line t =
      let stays = ap at t.1 in (
        record {
          come = rw stays (record { kept = l.come.kept; made = omega (arith, l.come.made) });
          far = stays ∙ l.far;
          below = ap (λ (b : Running H). held b.host) t.1 ∙ l.below;
        },
        t.0,
      )

  -- a step of the pile leads there
  step_far : (line : Option Order) (k : Running CloudState) → (pile_step p line k).progress ≡ pile_progress p (next_progress p line k)
  step_far (Some o) k = refl
  step_far None k = refl

  -- so all steps do
  pub follow_pile : (j : ℕ) (a : Running H) (k : Running CloudState) (rs : List (Result (Unit {0}) StepFault)) (b : Running H) → j + length rs ≤ most → Level j a k →
      TakesAll s v does xs a rs b →
      (rs ≡ step_answers orders (pile_progress p k) (pile_steps p orders k (length rs))) × (at b ≡ pile_progress p (pile_reached p orders k (length rs))) ×
      (held b.host ≡ (pile_reached p orders k (length rs)).host)
  unfolding TakesAll step_answers pile_steps pile_reached
  follow_pile j a k [] b low l t = (refl, ap at t ∙ l.far, ap (λ (b : Running H). held b.host) t ∙ l.below)
  follow_pile j a k (r ∷ rs) b low l t =
      let place : a.place ≡ k.place = ap (λ (b : Progress). b.place) l.far in
      let line : order_at xs a.place ≡ orders k.place = same a.place ∙ ap orders place in
      let at_place : slice_get os a.place ≡ orders k.place = sym (told_at xs os a.place told) ∙ line in
      let one = step_level j a k (orders k.place) r t.0 (omega arith) l at_place (rw line at t.1) in
      let rest = follow_pile (j + 1) t.0 (next_progress p (orders k.place) k) rs b (omega arith) one.0 t.2 in
      let far = step_far (orders k.place) k in
      let tail = rest.0 ∙ ap (λ q. step_answers orders q (pile_steps p orders (next_progress p (orders k.place) k) (length rs))) (sym far) in
      ((λ i. one.1 i ∷ tail i), rest.1, rest.2)
