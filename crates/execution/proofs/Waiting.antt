-- How many steps a run takes at most. Assumes nothing.
use Rattle.std.proofs.Common.{◌≡◌, ℕ, ◌+◌, ◌*◌, ◌≤◌, ◌⊎◌, List, [], ◌∷◌, Ok, Err, Some, None, Option, drop, length, slice_get, refl, sym, ap, subst, inl, inr, add-mul, mul-le-mul_right, arith}
use Rattle.std.proofs.lemmas.Bool.{cases_lt}
use Rattle.model.specs.declared.order.Order.{Order}
use Rattle.hosts.specs.declared.load.Load.{Load}
use Rattle.hosts.specs.declared.refusal.Reason.{Reason}
use Rattle.hosts.specs.declared.refusal.Reason.TheVariants.{Busy, Illegal, Gap, Full}
use Rattle.hosts.specs.Answers.{Answer, Meaning, is_bind, is_create, reason_of}
use Rattle.hosts.specs.Laws.{Covers, Expected}
use Rattle.hosts.proofs.Deciding.{busy_law, covered_law, done_law}
use Rattle.execution.specs.Steps.{Ordered, Progress, Step, Stepped, Steps, begun, reached}
use Rattle.execution.specs.Laws.{AsExpected, CoversAll, Start}
use Rattle.execution.proofs.Lines.{line_counts, line_none, line_within}
use Rattle.execution.proofs.Standing.{Kept, kept_first, kept_step}

-- j steps and v waits to come are at most p lines of w waits and one step each, and w waits
abbrev Within : ℕ → ℕ → ℕ → ℕ → Type 0
Within w p j v = j + v ≤ p * (w + 1) + w

-- a line that is done is one step, and at most w waits come before the next
within_done : (w p j v : ℕ) → Within w p j 0 → v ≤ w → Within w (p + 1) (j + 1) v
within_done w p j v h l = omega (arith, add-mul p 1 (w + 1))

-- after as many steps as n lines take at most, no place before n is left
within_ends : (w p n j v : ℕ) → p ≤ n → n * (w + 1) ≤ j → Within w p j v → p ≡ n
within_ends w p n j v le h k =
    elim (cases_lt p n) [
      | inl lt ↦
          let low : p + 1 ≤ n = omega arith in
          absurd (omega (arith, add-mul p 1 (w + 1), mul-le-mul_right (w + 1) low))
      | inr ge ↦ omega arith
    ]

-- what holds of how far a run has come by j steps, where w is the longest wait: no line is left, or the steps and the
-- waits to come are within those of the lines that are done; and the allowances cover the lines that are left
record Timely (os : List Order) (w j : ℕ) (a : Progress) : Type 0 where
  time : (a.place ≡ length os) ⊎ Within w a.place j a.host.service.load.waits
  covers : CoversAll (drop a.place os) a.host.service.load

module _ (os : List Order) (m : Meaning) (start : Start os m) where
  -- the longest wait
  abbrev w : ℕ
  w = m.service.profile.longest

  -- waits are up to the longest wait at every place
  kept_waits : (a : Progress) → Kept os m a → a.host.service.load.waits ≤ w
  kept_waits a k = let same = ap (λ p. p.longest) k.profile in omega (arith, k.sane.waits)

  module _
      (a b : Progress) (k : Kept os m a) (j : ℕ) (t : Timely os w j a)
      (o : Order) (e : slice_get os a.place ≡ Some o) where
    -- at a line the steps and the waits to come are within those of the lines that are done
    line_time : Within w a.place j a.host.service.load.waits
    line_time = elim t.time [ inl end ↦ absurd (omega (arith, line_within os a.place o e)) | inr h ↦ h ]

    -- the allowances cover the line
    line_covers : Covers o a.host.service.load
    line_covers = (
      omega (arith, line_counts os a.place o e is_create, t.covers.0),
      omega (arith, line_counts os a.place o e is_bind, t.covers.1),
    )

    -- a busy answer is one step more and one wait less
    timely_busy : (r : Answer) → Ordered o a r b → reason_of r ≡ Some Busy → b.place ≡ a.place →
        Timely os w (j + 1) b
    timely_busy r h q still =
        let d = busy_law o a.host b.host r h.host q in
        let load : b.host.service.load ≡ _ = ap (λ (n : Meaning). n.service.load) d.1 in
        let fewer = ap (λ (l : Load). l.waits) load in
        record {
          time = inr (rw (still, fewer) (omega (arith, d.0, line_time)));
          covers = rw (still, load) t.covers;
        }

    -- of the refusals only busy comes
    timely_refused : (r : Answer) (q : Reason) → Ordered o a r b → reason_of r ≡ Some q → Expected (Some q) →
        b.place ≡ a.place → Timely os w (j + 1) b
    timely_refused r Busy h p x still = timely_busy r h p still
    timely_refused r (Illegal y) h p x still = absurd x
    timely_refused r Gap h p x still = absurd x
    timely_refused r Full h p x still = absurd (covered_law o a.host b.host r line_covers h.host p)

    -- so it holds after the step, whatever the answer
    timely_line : Kept os m b → (r : Answer) → Ordered o a r b → Expected (reason_of r) → Timely os w (j + 1) b
    timely_line l (Ok x) h y =
        let d = done_law o a.host b.host (Ok x) h.host refl in
        let free = (h.host.decided d.0).free in
        let now : Within w a.place j 0 = omega (arith, line_time, d.0) in
        let next : b.place ≡ a.place + 1 = h.place in
        record {
          time = inr (rw next (within_done w a.place j b.host.service.load.waits now (kept_waits b l)));
          covers = rw next (
            omega (arith, line_counts os a.place o e is_create, t.covers.0, free.creations),
            omega (arith, line_counts os a.place o e is_bind, t.covers.1, free.bindings),
          );
        }
    timely_line l (Err z) h y = timely_refused (Err z) z.reason h refl y (omega (arith, h.place))

  -- where no line is left, a step changes nothing
  timely_end : (a b : Progress) (j : ℕ) → Kept os m a → slice_get os a.place ≡ None → b ≡ a → Timely os w j a →
      Timely os w (j + 1) b
  timely_end a b j k e same t =
      let all : a.place ≡ length os = omega (arith, k.place, line_none os a.place e) in
      subst (λ c. Timely os w (j + 1) c) (sym same) (record { time = inl all; covers = t.covers })

  -- it holds after each step
  timely_step : (a b : Progress) (j : ℕ) (o : Option Order) (r : Option Answer) → slice_get os a.place ≡ o →
      Kept os m a → Kept os m b → AsExpected r → Timely os w j a → Stepped o a r b → Timely os w (j + 1) b
  timely_step a b j (Some o) (Some r) e k l x t h = timely_line a b k j t o e l r h x
  timely_step a b j (Some o) None e k l x t h = absurd h
  timely_step a b j None (Some r) e k l x t h = absurd h
  timely_step a b j None None e k l x t h = timely_end a b j k e h t

  -- where j steps led to a, and these and those to come are as many as all lines take at most, the end is reached
  ends_from : (a : Progress) (ts : List Step) (j : ℕ) → Kept os m a → Timely os w j a → Steps os a ts →
      length os * (w + 1) ≤ j + length ts → (reached a ts).place ≡ length os
  unfolding Steps reached
  ends_from a [] j k t h many =
      elim t.time [
        | inl end ↦ end
        | inr within ↦ within_ends w a.place (length os) j a.host.service.load.waits k.place (omega arith) within
      ]
  ends_from a (s ∷ ts) j k t h many =
      let n = kept_step os m start a s.progress (slice_get os a.place) s.answer refl k h.0 in
      let u = timely_step a s.progress j (slice_get os a.place) s.answer refl k n.0 n.1 t h.0 in
      ends_from s.progress ts (j + 1) n.0 u h.1 (omega arith)

  -- it holds at the start
  timely_first : CoversAll os m.service.load → Timely os w 0 (begun m)
  timely_first c = record { time = inr (omega (arith, start.sane.waits)); covers = c }

  -- so as many steps as all lines take at most reach the end
  pub ends_at : (ts : List Step) → Steps os (begun m) ts → CoversAll os m.service.load →
      length os * (w + 1) ≤ length ts → (reached (begun m) ts).place ≡ length os
  ends_at ts h c many = ends_from (begun m) ts 0 (kept_first os m start) (timely_first c) h (omega arith)
