-- The worked cases of steps: a step on a cloud leaves but one thing to answer, and the numbers of instances and bindings
-- are counted order by order.
use Rattle.std.proofs.Common.{◌≡◌, ℕ, suc, ◌+◌, ◌-◌, ◌<◌, ◌≤◌, ◌≢◌, min, false, true, eqb, leb, ltb, cond, ◌&&◌, List, [], ◌∷◌, length, Some, None, Ok, Err, Option, Result, slice_get, sym, refl, ap, ◌∙◌, subst, lit<, arith}
use Rattle.std.proofs.Math.Nat.{min-le_right}
use Rattle.model.specs.declared.binding.Binding.{Binding}
use Rattle.model.specs.declared.order.Order.{Order}
use Rattle.model.specs.declared.order.Order.TheVariants.{Create, Bind, Change, Unbind}
use Rattle.model.specs.Bounded.{any_gap, covered, gap_at}
use Rattle.model.specs.Config.{Config, empty, ever_provides, ever_requires, pair, passes, stands}
use Rattle.model.specs.Counts.{bindings, instances}
use Rattle.model.specs.Orders.{Bindable, result_of}
use Rattle.model.specs.Search.{any}
use Rattle.model.proofs.Counting.{bindings_none, instances_none, count_law}
use Rattle.lines.specs.Line.{decoded}
use Rattle.hosts.specs.declared.refusal.Reason.{Reason}
use Rattle.hosts.specs.declared.refusal.Reason.TheVariants.{Busy, Full}
use Rattle.hosts.specs.declared.refusal.Refusal.{Refusal}
use Rattle.hosts.specs.Survey.{Lawful}
use Rattle.hosts.specs.Offences.{offence}
use Rattle.hosts.specs.Answers.{Answer, full_test, is_bind, is_done, leaves_gap}
use Rattle.plans.specs.Plan.{binding}
use Rattle.checking.specs.Judging.{line_judged, replayed, situation}
use Rattle.checking.proofs.Orders.{judged_done}
use Rattle.cloud.specs.declared.state.Cloud.{Cloud}
use Rattle.table.specs.Table.{applied, lawful_of, table_rule}
use Rattle.cloud.specs.Cloud.{CloudState, CloudTakes, cloud_after, cloud_answer, cloud_of, cloud_rule, cloud_service, cloud_situation}
use Rattle.execution.specs.Steps.{Progress, ended_between}
use Rattle.execution.proofs.Ending.{ended_law, ended_same}
use Rattle.executor.specs.declared.fault.StepFault.{StepFault}
use Rattle.executor.specs.Steps.{Given, Running, Takes, TakesAll, answer_at, most, order_at}
use Rattle.harbour.specs.Harbour.{harbour}
use Rattle.harbour.specs.Runs.{RunCases, Served, dispatcher_fault, serving_lines, slow}

-- a refusal by the cloud
abbrev refusal : Reason → Refusal
refusal e = record { reason = e; height = 0 }

-- how far a run has come: the cloud, the place, and the numbers on the ticket
record Stage : Type 0 where
  pub cloud : CloudState
  pub place : ℕ
  pub made : ℕ
  pub ended : ℕ

abbrev stage_of : Running Cloud → Stage
stage_of a = record { cloud = cloud_of a.host; place = a.place; made = a.made; ended = a.ended }

same_stage : {k l : CloudState} {p q m n e f : ℕ} → k ≡ l → p ≡ q → m ≡ n → e ≡ f →
    ◌≡◌ {A = Stage} (record { cloud = k; place = p; made = m; ended = e }) (record { cloud = l; place = q; made = n; ended = f })
same_stage a b c d = λ i. record { cloud = a i; place = b i; made = c i; ended = d i }

-- a cloud of the harbour with room for n instances, where c stands and w orders are put off
abbrev state : ℕ → Config → ℕ → CloudState
state n c w = record {
  held = record { situation = situation harbour c; limits = record { instances = n; bindings = 2048 } };
  waits = w;
  delay = 2;
}

abbrev stage : ℕ → Config → ℕ → ℕ → ℕ → ℕ → Stage
stage n c w p m e = record { cloud = state n c w; place = p; made = m; ended = e }

-- the stage after an order that is answered so, where so many bindings end
abbrev moved : Stage → Order → Answer → ℕ → Stage
moved s o x n = record {
  cloud = cloud_after o s.cloud;
  place = s.place + cond (is_done x) 1 0;
  made = min (s.made + cond (is_done x && is_bind o) 1 0) most;
  ended = min (s.ended + n) most;
}

abbrev ends : Order → CloudState → ℕ
ends o k = ended_between k.held.situation.config (cloud_after o k).held.situation.config

abbrev Answers : Type 0
Answers = List (Result (Unit {0}) StepFault)

abbrev Goes : Running Cloud → Answers → Running Cloud → Type 0
Goes a told b = TakesAll cloud_situation cloud_service CloudTakes serving_lines a told b

-- what a step answers, and where it leads
module _ (s : Stage) (o : Order) (x : Answer) (is : cloud_answer (cloud_rule o s.cloud) ≡ x) (a b : Running Cloud)
    (at : stage_of a ≡ s) (r : Result (Unit {0}) StepFault) (g : Given cloud_situation cloud_service CloudTakes o a r b) where
  answer : g.answer ≡ x
  answer = g.exact.answer ∙ ap (λ (t : Stage). cloud_answer (cloud_rule o t.cloud)) at ∙ is

  told : r ≡ answer_at s.place o x
  told = g.told ∙ ap (λ (t : Stage). answer_at t.place o g.answer) at ∙ ap (answer_at s.place o) answer

  cloud : cloud_of b.host ≡ cloud_after o s.cloud
  cloud = g.exact.after ∙ ap (λ (t : Stage). cloud_after o t.cloud) at

  gone : g.next.ended ≡ a.ended + ends o s.cloud
  gone =
      g.ordered.ended
      ∙ ap (λ (p : Progress). a.ended + ended_between (cloud_situation a.host).config p.host.situation.config) (sym g.after)
      ∙ ap (λ (k : CloudState). a.ended + ended_between (cloud_situation a.host).config k.held.situation.config) cloud
      ∙ ap (λ (t : Stage). a.ended + ended_between t.cloud.held.situation.config (cloud_after o s.cloud).held.situation.config) at

  leads : stage_of b ≡ moved s o x (ends o s.cloud)
  leads i = record { cloud = cloud i; place = place i; made = made i; ended = ended i }
    where
      place : b.place ≡ s.place + cond (is_done x) 1 0
      place =
          ap (λ (p : Progress). p.place) g.after
          ∙ g.ordered.place
          ∙ ap (λ (t : Stage). t.place + cond (is_done g.answer) 1 0) at
          ∙ ap (λ y. s.place + cond (is_done y) 1 0) answer

      made : b.made ≡ min (s.made + cond (is_done x && is_bind o) 1 0) most
      made =
          ap (λ (p : Progress). p.made) g.after
          ∙ ap (λ m. min m most) (g.ordered.made
          ∙ ap (λ (t : Stage). t.made + cond (is_done g.answer && is_bind o) 1 0) at
          ∙ ap (λ y. s.made + cond (is_done y && is_bind o) 1 0) answer)

      ended : b.ended ≡ min (s.ended + ends o s.cloud) most
      ended =
          ap (λ (p : Progress). p.ended) g.after
          ∙ ap (λ m. min m most) (gone ∙ ap (λ (t : Stage). t.ended + ends o s.cloud) at)

-- the steps that are left, and the stage that they begin at
record Left (b : Running Cloud) (s : Stage) (told : Answers) (steps : ℕ) : Type 0 where
  pub from : Running Cloud
  pub at : stage_of from ≡ s
  pub few : (s.made ≤ most) × (s.ended ≤ most)
  pub goes : Goes from told b
  pub long : length told ≡ steps

-- the steps that are left after so many of them
record After (b : Running Cloud) (s : Stage) (told : Answers) (gone steps : ℕ) : Type 0 where
  pub rest : Answers
  pub left : Left b s rest steps
  pub answers : (j : ℕ) → slice_get told (j + gone) ≡ slice_get rest j

-- a step, by what the cloud answers
one : (b : Running Cloud) (o : Order) (s : Stage) → order_at serving_lines s.place ≡ Some o →
    (x : Answer) → cloud_answer (cloud_rule o s.cloud) ≡ x → (xs : Answers) (steps : ℕ) → Left b s xs (suc steps) →
    After b (moved s o x (ends o s.cloud)) xs 1 steps × (slice_get xs 0 ≡ Some (answer_at s.place o x))
unfolding TakesAll
one b o s line x is [] steps l = let e = l.long in absurd (omega arith)
one b o s line x is (r ∷ rest) steps l =
    let order = ap (λ (t : Stage). order_at serving_lines t.place) l.at ∙ line in
    let g = subst (λ y. Takes cloud_situation cloud_service CloudTakes y l.from r l.goes.0) order l.goes.1 in
    let next : Left b (moved s o x (ends o s.cloud)) rest steps = record {
      from = l.goes.0;
      at = leads s o x is l.from l.goes.0 l.at r g;
      few = (min-le_right (s.made + cond (is_done x && is_bind o) 1 0) most, min-le_right (s.ended + ends o s.cloud) most);
      goes = l.goes.2;
      long = let e = l.long in omega arith;
    } in (
      record { rest = rest; left = next; answers = λ j. ap (slice_get (r ∷ rest)) {y = suc j} (omega arith) },
      ap Some (told s o x is l.from l.goes.0 l.at r g),
    )

left_at : {b : Running Cloud} {s : Stage} {xs : Answers} {j k : ℕ} → Left b s xs j → j ≡ k → Left b s xs k
left_at l e = record { from = l.from; at = l.at; few = l.few; goes = l.goes; long = l.long ∙ e }

-- steps, and steps after them
onward : {b : Running Cloud} {s t : Stage} {xs : Answers} {m n steps left : ℕ} (f : After b s xs m steps) → After b t f.rest n left → After b t xs (n + m) left
onward {b} {s} {t} {xs} {m} {n} f g = record {
  rest = g.rest;
  left = g.left;
  answers = λ j. ap (slice_get xs) (omega arith) ∙ f.answers (j + n) ∙ g.answers j;
}

-- so many instances and bindings stand
record Count (c : Config) (i x : ℕ) : Type 0 where
  pub instances : instances 256 c ≡ i
  pub bindings : bindings 32 256 c ≡ x

-- the order is legal where c stands, and leaves no gap; and so many instances and bindings stand before and after it
record Line (o : Order) (c : Config) (i x j y : ℕ) : Type 0 where
  pub legal : offence o (situation harbour c) ≡ None
  pub free : leaves_gap o (situation harbour c) ≡ false
  pub before : Count c i x
  pub after : Count (result_of o c) j y

module _ (b : Running Cloud) (o : Order) (n : ℕ) (c : Config) (p m e : ℕ) (line : order_at serving_lines p ≡ Some o) where
  -- a step that is put off
  busy : (w : ℕ) → ltb 0 w ≡ true → (xs : Answers) (steps : ℕ) → Left b (stage n c w p m e) xs (suc steps) →
      After b (stage n c (w - 1) p m e) xs 1 steps
  busy w up xs steps l =
      let few = l.few in
      let after : cloud_after o (state n c w) ≡ state n c (w - 1) = rw up refl in
      let gone = ap (λ (k : CloudState). ended_between c k.held.situation.config) after ∙ ended_same c in
      let same = same_stage {l = state n c (w - 1)} {q = p} {n = m} {f = e} after (omega arith) (omega (arith, few)) (omega (arith, gone, few)) in
      subst (λ s. After b s xs 1 steps) same (one b o (stage n c w p m e) line (Err (refusal Busy)) (rw up refl) xs steps l).0

  -- a step that is done
  done : (i x j y : ℕ) → Line o c i x j y → full_test o (record { waits = 0; creations = n - i; bindings = 2048 - x }) ≡ false →
      (xs : Answers) (steps : ℕ) → Left b (stage n c 0 p m e) xs (suc steps) →
      After b (stage n (result_of o c) 2 (p + 1) (min (m + cond (is_bind o) 1 0) most) (min (e + (x + cond (is_bind o) 1 0 - y)) most)) xs 1 steps
  unfolding table_rule
  done i x j y f room xs steps l =
      let law = subst (λ (s : Stage). Lawful s.cloud.held.situation) l.at (lawful_of l.from.host.table) in
      let count = ended_law (situation harbour c) o law f.legal in
      let gone : ended_between c (result_of o c) ≡ x + cond (is_bind o) 1 0 - y = omega (arith, count, f.before.bindings, f.after.bindings) in
      let is = rule in
      let same = same_stage {l = state n (result_of o c) 2} {q = p + 1} (ap after is) refl refl
      (ap (λ r. min (e + ended_between c (after r).held.situation.config) most) is ∙ ap (λ n. min (e + n) most) gone) in
      subst (λ s. After b s xs 1 steps) same (one b o (stage n c 0 p m e) line (Ok tt) (ap cloud_answer is) xs steps l).0
    where
      after : Option Reason → CloudState
      after r = record { held = applied o r (state n c 0).held; waits = 2; delay = 2 }

      rule : table_rule o (state n c 0).held ≡ None
      rule = rw (f.legal, f.before.instances, f.before.bindings, room) refl

  -- two steps that are put off
  waits : (xs : Answers) (steps : ℕ) → Left b (stage n c 2 p m e) xs (suc (suc steps)) → After b (stage n c 0 p m e) xs 2 steps
  waits xs steps l =
      let f = busy 2 refl xs (suc steps) l in
      onward f (busy 1 refl f.rest steps f.left)

-- the three steps of a line
passed : {b : Running Cloud} {o : Order} {n : ℕ} {c : Config} {p m e i x j y g total : ℕ} {xs : Answers} → Line o c i x j y →
    order_at serving_lines p ≡ Some o → full_test o (record { waits = 0; creations = n - i; bindings = 2048 - x }) ≡ false →
    After b (stage n c 2 p m e) xs g total → (steps : ℕ) → total ≡ 3 + steps →
    After b (stage n (result_of o c) 2 (p + 1) (min (m + cond (is_bind o) 1 0) most) (min (e + (x + cond (is_bind o) 1 0 - y)) most)) xs (3 + g) steps
passed {b} {o} {n} {c} {p} {m} {e} {i} {x} {j} {y} {g} {total} {xs} f line room h steps is =
    let w = waits b o n c p m e line h.rest (suc steps) (left_at h.left (omega (arith, is))) in
    let d = done b o n c p m e line i x j y f room w.rest steps w.left in
    onward h (onward w d)

-- what stands after so many of the lines
abbrev c1 : Config
c1 = result_of (Create 0 0) empty

abbrev c2 : Config
c2 = result_of (Change 0 1) c1

abbrev c3 : Config
c3 = result_of (Create 1 1) c2

abbrev c4 : Config
c4 = result_of (Bind (binding 0 0 1)) c3

abbrev c5 : Config
c5 = result_of (Change 1 1) c4

abbrev c6 : Config
c6 = result_of (Create 2 2) c5

abbrev c7 : Config
c7 = result_of (Bind (binding 0 0 2)) c6

abbrev c8 : Config
c8 = result_of (Change 2 1) c7

abbrev c9 : Config
c9 = result_of (Bind (binding 1 1 2)) c8

abbrev c10 : Config
c10 = result_of (Change 2 2) c9

abbrev c11 : Config
c11 = result_of (Unbind (binding 0 0 2)) c10

-- how each kind of order moves the counts
module _ {c : Config} {i x : ℕ} (h : Count c i x) where
  created : (z t : ℕ) → z < 256 → t < 3 → stands (c.inst z) ≡ false → Count (result_of (Create z t) c) (i + 1) x
  created z t low type free =
      let m = count_law 32 256 harbour c (Create z t) (free, type) low in
      record { instances = m.0 ∙ ap (λ n. n + 1) h.instances; bindings = m.1 ∙ h.bindings }

  changed : (z q : ℕ) → passes (c.inst z) (λ k. harbour.next k.kind k.state q) ≡ true → Count (result_of (Change z q) c) i x
  changed z q follows =
      let m = count_law 32 256 harbour c (Change z q) follows in
      record { instances = m.0 ∙ h.instances; bindings = m.1 ∙ h.bindings }

  bound : (j : Binding) → (j.port < 32) × (j.provider < 256) × (j.requirer < 256) × (j.provider ≢ j.requirer) →
      ever_provides harbour j.port (c.inst j.provider) ≡ true → ever_requires harbour j.port (c.inst j.requirer) ≡ true →
      c.bound j.port j.provider j.requirer ≡ false → Count (result_of (Bind j) c) i (x + 1)
  bound j low provider requirer new =
      let fit : Bindable harbour c j.port j.provider j.requirer = record { apart = low.3; provider = provider; requirer = requirer; new = new } in
      let m = count_law 32 256 harbour c (Bind j) fit low.0 low.1 low.2 in
      record { instances = m.0 ∙ h.instances; bindings = m.1 ∙ ap (λ n. n + 1) h.bindings }

  unbound : (j : Binding) → j.port < 32 → j.provider < 256 → j.requirer < 256 → c.bound j.port j.provider j.requirer ≡ true →
      Count (result_of (Unbind j) c) i (x - 1)
  unbound j lp lx ly is =
      let m = count_law 32 256 harbour c (Unbind j) is lp lx ly in
      let less : bindings 32 256 (result_of (Unbind j) c) ≡ x - 1 = omega (arith, m.1, h.bindings) in
      record { instances = m.0 ∙ h.instances; bindings = less }

-- the lines, one after the other
empty_count : Count empty 0 0
empty_count = record { instances = instances_none 256 empty (λ z. refl); bindings = bindings_none 32 256 empty (λ p x y. refl) }

line1 : Line (Create 0 0) empty 0 0 1 0
unfolding any covered gap_at any_gap result_of
line1 = record { legal = refl; free = refl; before = empty_count; after = created empty_count 0 0 (lit< tt) (lit< tt) refl }

line2 : Line (Change 0 1) c1 1 0 1 0
unfolding any covered gap_at any_gap result_of
line2 = record { legal = refl; free = refl; before = line1.after; after = changed line1.after 0 1 refl }

line3 : Line (Create 1 1) c2 1 0 2 0
unfolding any covered gap_at any_gap result_of
line3 = record { legal = refl; free = refl; before = line2.after; after = created line2.after 1 1 (lit< tt) (lit< tt) refl }

line4 : Line (Bind (binding 0 0 1)) c3 2 0 2 1
unfolding any covered gap_at any_gap result_of
line4 = record { legal = refl; free = refl; before = line3.after; after = bound line3.after (binding 0 0 1) (lit< tt, lit< tt, lit< tt, λ e. omega (arith, e)) refl refl refl }

line5 : Line (Change 1 1) c4 2 1 2 1
unfolding any covered gap_at any_gap result_of
line5 = record { legal = refl; free = refl; before = line4.after; after = changed line4.after 1 1 refl }

line6 : Line (Create 2 2) c5 2 1 3 1
unfolding any covered gap_at any_gap result_of
line6 = record { legal = refl; free = refl; before = line5.after; after = created line5.after 2 2 (lit< tt) (lit< tt) refl }

line7 : Line (Bind (binding 0 0 2)) c6 3 1 3 2
unfolding any covered gap_at any_gap result_of
line7 = record { legal = refl; free = refl; before = line6.after; after = bound line6.after (binding 0 0 2) (lit< tt, lit< tt, lit< tt, λ e. omega (arith, e)) refl refl refl }

line8 : Line (Change 2 1) c7 3 2 3 2
unfolding any covered gap_at any_gap result_of
line8 = record { legal = refl; free = refl; before = line7.after; after = changed line7.after 2 1 refl }

line9 : Line (Bind (binding 1 1 2)) c8 3 2 3 3
unfolding any covered gap_at any_gap result_of
line9 = record { legal = refl; free = refl; before = line8.after; after = bound line8.after (binding 1 1 2) (lit< tt, lit< tt, lit< tt, λ e. omega (arith, e)) refl refl refl }

line10 : Line (Change 2 2) c9 3 3 3 3
unfolding any covered gap_at any_gap result_of
line10 = record { legal = refl; free = refl; before = line9.after; after = changed line9.after 2 2 refl }

line11 : Line (Unbind (binding 0 0 2)) c10 3 3 3 2
unfolding any covered gap_at any_gap result_of
line11 = record { legal = refl; free = refl; before = line10.after; after = unbound line10.after (binding 0 0 2) (lit< tt) (lit< tt) (lit< tt) refl }

module _ (b : Running Cloud) (xs : Answers) where
  -- a run that begins on a cloud with room for n instances
  begins : (n : ℕ) (c : Cloud) (steps : ℕ) → cloud_of c ≡ slow n → length xs ≡ steps → Served c xs b →
      After b (stage n empty 2 0 0 0) xs 0 steps
  begins n c steps is long runs =
      let left : Left b (stage n empty 2 0 0 0) xs steps = record {
        from = record { host = c; place = 0; made = 0; ended = 0 };
        at = same_stage is refl refl refl;
        few = (omega arith, omega arith);
        goes = runs;
        long = long;
      } in
      record { rest = xs; left = left; answers = λ j. ap (slice_get xs) (omega arith) }

  -- where no step is left, the run has come to its end
  over : (s : Stage) (ys : Answers) → Left b s ys 0 → stage_of b ≡ s
  unfolding TakesAll
  over s [] l = ap stage_of l.goes ∙ l.at
  over s (r ∷ ys) l = let e = l.long in absurd (omega arith)

  -- the first five lines, where there is room for two instances or more
  five : (n steps : ℕ) → eqb (n - 0) 0 ≡ false → eqb (n - 1) 0 ≡ false →
      After b (stage n empty 2 0 0 0) xs 0 (15 + steps) → After b (stage n c5 2 5 1 0) xs 15 steps
  five n steps some more a0 =
      let a1 = passed line1 refl some a0 (12 + steps) (omega arith) in
      let a2 = passed line2 refl refl a1 (9 + steps) (omega arith) in
      let a3 = passed line3 refl more a2 (6 + steps) (omega arith) in
      let a4 = passed line4 refl refl a3 (3 + steps) (omega arith) in
      passed line5 refl refl a4 steps (omega arith)

  -- and the next five, where there is room for more
  ten : (steps : ℕ) → After b (stage 256 empty 2 0 0 0) xs 0 (15 + (15 + steps)) → After b (stage 256 c10 2 10 3 0) xs 30 steps
  ten steps a0 =
      let a5 = five 256 (15 + steps) refl refl a0 in
      let a6 = passed line6 refl refl a5 (12 + steps) (omega arith) in
      let a7 = passed line7 refl refl a6 (9 + steps) (omega arith) in
      let a8 = passed line8 refl refl a7 (6 + steps) (omega arith) in
      let a9 = passed line9 refl refl a8 (3 + steps) (omega arith) in
      passed line10 refl refl a9 steps (omega arith)

  -- all lines
  all_served : After b (stage 256 empty 2 0 0 0) xs 0 33 → stage_of b ≡ stage 256 c11 2 11 3 1
  all_served a0 =
      let a = passed line11 refl refl (ten 3 a0) 0 refl in
      over (stage 256 c11 2 11 3 1) a.rest a.left

  -- all but the last step
  all_but_one : After b (stage 256 empty 2 0 0 0) xs 0 32 → stage_of b ≡ stage 256 c10 0 10 3 0
  all_but_one a0 =
      let a = ten 2 a0 in
      let w = waits b (Unbind (binding 0 0 2)) 256 c10 10 3 0 refl a.rest 0 a.left in
      over (stage 256 c10 0 10 3 0) w.rest w.left

  -- where there is no room for the dispatcher
  no_room : After b (stage 2 empty 2 0 0 0) xs 0 18 →
      (slice_get xs 15 ≡ Some (Err (dispatcher_fault Busy))) ×
      (slice_get xs 16 ≡ Some (Err (dispatcher_fault Busy))) ×
      (slice_get xs 17 ≡ Some (Err (dispatcher_fault Full)))
  unfolding table_rule
  no_room a0 =
      let a = five 2 3 refl refl a0 in
      let w1 = busy b (Create 2 2) 2 c5 5 1 0 refl 2 refl a.rest 2 a.left in
      let w2 = busy b (Create 2 2) 2 c5 5 1 0 refl 1 refl w1.rest 1 w1.left in
      let rule : table_rule (Create 2 2) (state 2 c5 0).held ≡ Some Full = rw (line6.legal, line6.before.instances) refl in (
        a.answers 0 ∙ (one b (Create 2 2) (stage 2 c5 2 5 1 0) refl (Err (refusal Busy)) refl a.rest 2 a.left).1,
        a.answers 1 ∙ w1.answers 0 ∙ (one b (Create 2 2) (stage 2 c5 1 5 1 0) refl (Err (refusal Busy)) refl w1.rest 1 w1.left).1,
        a.answers 2
            ∙ w1.answers 1
            ∙ w2.answers 0
            ∙ (one b (Create 2 2) (stage 2 c5 0 5 1 0) refl (Err (refusal Full)) (ap cloud_answer rule) w2.rest 0 w2.left).1,
      )

-- a line is judged good
good : (x : ℕ) {o : Order} {c : Config} {i a j d : ℕ} → Line o c i a j d → decoded x ≡ Ok o → (is_bind o && leb 2048 a) ≡ false →
    line_judged (situation harbour c) x ≡ Ok (result_of o c)
unfolding line_judged
good x {o} {c} f is room = rw is (judged_done (situation harbour c) o f.legal f.free (rw f.before.bindings room))

-- and so are all of them
serving_judged : replayed harbour 0 empty serving_lines ≡ Ok tt
unfolding replayed
serving_judged =
    rw (good 0x20000000 line1 refl refl)
    (rw (good 0x60000002 line2 refl refl)
    (rw (good 0x20200010 line3 refl refl)
    (rw (good 0x40002000 line4 refl refl)
    (rw (good 0x60200002 line5 refl refl)
    (rw (good 0x20400020 line6 refl refl)
    (rw (good 0x40004000 line7 refl refl)
    (rw (good 0x60400002 line8 refl refl)
    (rw (good 0x40204100 line9 refl refl)
    (rw (good 0x60400004 line10 refl refl)
    (rw (good 0x80004000 line11 refl refl) refl))))))))))

-- the dispatcher serves at last
serves : c11.inst 2 ≡ Some (pair 2 2)
unfolding result_of
serves = refl

pub run_cases : RunCases
run_cases = record {
  orders = refl;
  judged = serving_judged;
  ends = λ c told b is long runs.
      let e = all_served b told (begins b told 256 c 33 is long runs) in (
        ap (λ (s : Stage). s.place) e,
        ap (λ (s : Stage). s.made - s.ended) e,
        ap (λ (s : Stage). s.cloud.held.situation.config.inst 2) e ∙ serves,
      );
  before = λ c told b is long runs. ap (λ (s : Stage). s.place) (all_but_one b told (begins b told 256 c 32 is long runs));
  full = λ c told b is long runs. no_room b told (begins b told 2 c 18 is long runs);
  number = refl;
}
