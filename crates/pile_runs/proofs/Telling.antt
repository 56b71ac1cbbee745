-- What is told of a run on a fresh pile. Assumes nothing.
use Rattle.std.proofs.Common.{Bor, ◌≡◌, ℕ, ◌+◌, ◌-◌, ◌<◌, ◌≤◌, ◌^◌, List, length, map, Some, None, Ok, Err, Option, Result, string_bytes, String, refl, sym, ap, ◌∙◌, arith}
use mathlib.Core.Path.{fun_ext}
use Rattle.std.specs.Result.{result_unwrap_or}
use Rattle.std.proofs.lemmas.Bool.{le-ltb}
use Rattle.std.specs.declared.alloc.Global.{Global}
use Rattle.console.specs.declared.failure.Failure.{Failure}
use Rattle.console.specs.declared.failure.Failure.TheVariants.{Refused as RefusedAs, Memory}
use Rattle.console.specs.Told.{IfTold, Told}
use Rattle.checking.proofs.Stepping.{never}
use Rattle.model.specs.declared.order.Order.{Order}
use Rattle.model.specs.Config.{empty}
use Rattle.model.specs.Universe.{Universe, Valid}
use Rattle.model.proofs.Counting.{bindings_none}
use Rattle.lines.specs.Line.{decoded}
use Rattle.hosts.specs.Survey.{Lawful, Situation, bindings_of}
use Rattle.hosts.specs.Service.{Sane, Service}
use Rattle.hosts.specs.Answers.{Answer, Meaning, meaning}
use Rattle.cloud.specs.Cloud.{CloudState}
use Rattle.universe.specs.declared.held.Universe.{Universe as Held}
use Rattle.universe.specs.declared.tables.Tables.{Tables}
use Rattle.universe.specs.Held.{universe_in}
use Rattle.universe.specs.Reading.{Read, tables_read}
use Rattle.console.specs.Refused.{refusal_told}
use Rattle.planner.specs.declared.refusal.PlanRefusal.{PlanRefusal}
use Rattle.planner.specs.Planning.{plan_answer, planned}
use Rattle.planner.proofs.Promising.{planned_short}
use Rattle.execution.specs.Steps.{Progress}
use Rattle.execution.specs.Laws.{Start}
use Rattle.execution.proofs.Standing.{kept_first}
use Rattle.executor.specs.declared.fault.StepFault.{StepFault}
use Rattle.executor.specs.Steps.{Running, beginning, most, order_at}
use Rattle.passing.proofs.Planned.{told_length}
use Rattle.passing.proofs.Starting.{start_law}
use Rattle.options.specs.declared.HostOptions.{HostOptions}
use Rattle.piles.specs.Piles.{Pile, fresh, fresh_cloud_of, pile_of}
use Rattle.piles.proofs.Piling.{IsPile}
use Rattle.runs.specs.declared.request.Act.{Act}
use Rattle.runs.specs.declared.request.Request.{Request}
use Rattle.runs.specs.declared.request.Request.TheVariants.{Goal, Script}
use Rattle.runs.specs.Promise.{AsPlanned, answers_of, step_answers}
use Rattle.runs.specs.Refusals.{lines_run, run_refusal}
use Rattle.runs.proofs.Following.{told_at}
use Rattle.runs.proofs.Promising.{told_size}
use Rattle.run_text.specs.Reports.{RefusedWith, Reported, run_text}
use Rattle.pile_runs.specs.Piles.{pile_progress, pile_steps}
use Rattle.pile_runs.specs.Runs.{StepsReported, command_text, line_count, most_lines, pile_reached, pile_run_text, planned_count, ran_at, request_order, steps_for, steps_text, unless_refused}
use Rattle.pile_runs.proofs.Piles.{Good, IsHost, fresh_good, pile_host}
use Rattle.pile_runs.proofs.Running.{follow_pile}

-- the lines that were run have the orders of the request at their places
orders_same : (u : Universe) (request : Request) (left : List ℕ) (n : ℕ) (os : List Order) → AsPlanned u request os →
    map decoded (lines_run request left n) ≡ map Ok os → (i : ℕ) → order_at (lines_run request left n) i ≡ request_order u request i
orders_same u (Goal bs) left n os planned told i = rw planned.0 (told_at (lines_run (Goal bs) left n) os i told)
orders_same u (Script xs) left n os planned told i = refl

-- and are as many
count_same : (u : Universe) (request : Request) (left : List ℕ) (n : ℕ) (os : List Order) → AsPlanned u request os →
    map decoded (lines_run request left n) ≡ map Ok os → length (lines_run request left n) ≡ line_count u request
count_same u (Goal bs) left n os planned told = rw planned.0 (told_length (lines_run (Goal bs) left n) os told)
count_same u (Script xs) left n os planned told = refl

module _ {H : Type 0} (s : H → Situation) (v : H → Service) (does : Order → H → H → Answer → Type 0) (held : H → CloudState) (p : Pile) (is : IsPile s v does held p)
    (request : Request) (h k : H) (lawful : Lawful (s h)) (sane : Sane (v h)) (list left : List ℕ) (before after : List Act) where
  -- a run that is reported is what the pile does
  run_told : (text : List ℕ) → length before < 2 ^ 63 → Reported s v does request h k list left before after text →
      text ≡ steps_text p (request_order (s h).universe request) (beginning (held h)) (length before) request (line_count (s h).universe request)
  run_told text short r =
      let u = (s h).universe in
      let lines = lines_run request left r.ran.lines in
      let os = r.promise.orders in
      let m = meaning (s h) (v h) in
      let passes = r.promise.passes in
      let start : Start os m = start_law lines os m lawful sane r.promise.empty passes in
      let none : bindings_of (s h) ≡ 0 = rw r.promise.empty (bindings_none 32 256 empty (λ p x y. refl)) in
      let same = orders_same u request left r.ran.lines os r.promise.planned passes.runs.told in
      let told = r.over.acted.told in
      let size : length told ≡ length before = told_size before after told r.over.acted.actions r.over.acted.answers in
      let few : 0 + length told ≤ most = omega (arith, size, short) in
      let first = beginning (held h) in
      let orders = request_order u request in
      let f = follow_pile s v does held p is lines os m start passes.runs.told none orders same 0 (beginning h) first told r.over.last few
      (record {
        come = record { kept = kept_first os m start; made = omega arith };
        far = λ i. record { host = is.means h i; place = 0; made = 0; ended = 0 };
        below = refl;
      }) r.over.acted.steps in
      let last = pile_reached p orders first (length before) in
      let end : progress_at r.over.last ≡ pile_progress p last = f.1 ∙ ap (λ n. pile_progress p (pile_reached p orders first n)) size in
      let these : List (Option (Result (Unit {0}) StepFault)) = map Some (step_answers orders (pile_progress p first) (pile_steps p orders first (length before))) in
      let answers : answers_of after ≡ map Some (step_answers orders (pile_progress p first) (pile_steps p orders first (length before))) =
      r.over.acted.answers ∙ ap (map Some) (f.0 ∙ ap (λ n. step_answers orders (pile_progress p first) (pile_steps p orders first n)) size) in
      let stands : s k ≡ (p.means last.host).situation = ap s (sym r.over.host) ∙ ap (λ (a : Progress). a.host.situation) end in
      let count : r.ran.lines ≡ line_count u request = r.over.lines ∙ count_same u request left r.ran.lines os r.promise.planned passes.runs.told in
      let place : r.ran.place ≡ last.place = r.over.place ∙ ap (λ (a : Progress). a.place) end in
      let leases : r.ran.leases ≡ last.made - last.ended = r.over.leases ∙ ap (λ (a : Progress). a.made - a.ended) end in
      let ran : r.ran ≡ ran_at (line_count u request) last = λ i. record { lines = count i; place = place i; leases = leases i } in
      r.told
      ∙ ap (λ f. run_text f (answers_of after) request (s k) r.ran) (fun_ext same)
      ∙ ap (λ rs. run_text orders rs request (s k) r.ran) answers
      ∙ ap (λ t. run_text orders these request t r.ran) stands
      ∙ ap (run_text orders these request (p.means last.host).situation) ran
    where
      progress_at : Running H → Progress
      progress_at a = record { host = meaning (s a.host) (v a.host); place = a.place; made = a.made; ended = a.ended }

module _ {H : Type 0} (s : H → Situation) (v : H → Service) (does : Order → H → H → Answer → Type 0) (held : H → CloudState) (p : Pile) (is : IsPile s v does held p) where
  -- so is what is told of the request, where the host is a fresh pile
  pub request_told : (u : Universe) (o : HostOptions) (request : Request) (h k : H) (n : ℕ) (r : Result (String Global) (Failure (String Global))) → Valid u →
      p ≡ pile_of o.layers → held h ≡ fresh_cloud_of u o →
      IfTold r (λ t. StepsReported s v does request h k n (string_bytes t)) (λ t. RefusedWith (s h) request most_lines (string_bytes t)) →
      Told string_bytes string_bytes r (pile_run_text u o request n)
  request_told u o request h k n r ok pile opened t = by r t
    where
      means : meaning (s h) (v h) ≡ fresh u o
      means = is.means h ∙ ap (λ (q : Pile). q.means (held h)) pile ∙ ap (pile_of o.layers).means opened

      stands : s h ≡ (fresh u o).situation
      stands = ap (λ (m : Meaning). m.situation) means

      host : IsHost (pile_of o.layers)
      host = pile_host o.layers

      good : Good (fresh_cloud_of u o)
      good = fresh_good u o ok

      fresh_is : (fresh u o).situation ≡ (fresh_cloud_of u o).held.situation
      fresh_is = host.situation (fresh_cloud_of u o)

      lawful : Lawful (s h)
      lawful = rw (stands, fresh_is) good.lawful

      sane : Sane (v h)
      sane = rw (ap (λ (m : Meaning). m.service) means) (host.sane _ good)

      universe : (s h).universe ≡ u
      universe = ap (λ (t : Situation). t.universe) (stands ∙ fresh_is)

      same : run_refusal (s h) request most_lines ≡ run_refusal (fresh u o).situation request most_lines
      same = ap (λ t. run_refusal t request most_lines) stands

      whole : List ℕ
      whole = steps_text (pile_of o.layers) (request_order u request) (beginning (fresh_cloud_of u o)) n request (line_count u request)

      by : (r : Result (String Global) (Failure (String Global))) →
          IfTold r (λ t. StepsReported s v does request h k n (string_bytes t)) (λ t. RefusedWith (s h) request most_lines (string_bytes t)) →
          Told string_bytes string_bytes r (pile_run_text u o request n)
      by (Ok text) t =
          let short : length t.before < 2 ^ 63 = omega (arith, t.each, t.short) in
          let steps : steps_text p (request_order (s h).universe request) (beginning (held h)) (length t.before) request (line_count (s h).universe request) ≡ whole =
          rw (universe, pile, opened, t.each) refl in
          let none : run_refusal (s h) request most_lines ≡ None = rw t.room at t.reported.allowed in
          ap Ok (run_told s v does held p is request h k lawful sane t.list t.left t.before t.after (string_bytes text) short t.reported ∙ steps)
          ∙ ap (λ e. unless_refused e whole) (sym none ∙ same)
      by (Err (RefusedAs text)) t = ap Err t.2 ∙ ap (λ e. unless_refused e whole) (sym t.1 ∙ same)
      by (Err (Memory e)) t = tt

-- a goal has as many lines as its script, and none where it is refused
pub count_planned : (u : Universe) (request : Request) (bs : Bor (List ℕ)) (r : Result ℕ PlanRefusal) → Valid u → request ≡ Goal bs →
    r ≡ plan_answer (planned u bs.now) most_lines → result_unwrap_or r 0 ≡ line_count u request
count_planned u request bs r ok asked answer = rw (asked, answer) (by (planned u bs.now) refl)
  where
    by : (p : Result (List Order) PlanRefusal) → planned u bs.now ≡ p → result_unwrap_or (plan_answer p most_lines) 0 ≡ planned_count p
    by (Err e) is = refl
    by (Ok os) is = rw (le-ltb most_lines (length os) (planned_short u bs.now ok os is)) refl

-- what is read is read
read_is : (held : Tables) (r : Read Tables) → Ok held ≡ refusal_told r → r ≡ Ok held
read_is held (Ok t) is = cc
read_is held (Err e) is = never cc

-- what is told of the universe that was read is what the command tells
pub command_told : (file : List ℕ) (h : Held) (o : HostOptions) (request : Request) (steps : Option ℕ) (n : ℕ) (q : Result Held (Failure (String Global))) (r : Result (String Global) (Failure (String Global))) →
    Told (λ (u : Held). u.tables) string_bytes q (refusal_told (tables_read file)) → q ≡ Ok h → n ≡ steps_for (universe_in h) o request steps →
    Told string_bytes string_bytes r (pile_run_text (universe_in h) o request n) →
    Told string_bytes string_bytes r (command_text o request steps (tables_read file))
command_told file h o request steps n q r told is count t =
    let read : tables_read file ≡ Ok h.tables = read_is h.tables (tables_read file) (rw is at told) in
    rw read (rw count at t)

-- a text that is told with lists of the right sizes
pub steps_told : {H : Type 0} (s : H → Situation) (v : H → Service) (does : Order → H → H → Answer → Type 0) (request : Request) (h k : H) (n : ℕ) (list left : List ℕ) (before after : List Act)
    (r : Result (String Global) (Failure (String Global))) → length list ≡ most_lines → length before ≡ n → n < 2 ^ 63 →
    IfTold r (λ t. Reported s v does request h k list left before after (string_bytes t)) (λ t. RefusedWith (s h) request (length list) (string_bytes t)) →
    IfTold r (λ t. StepsReported s v does request h k n (string_bytes t)) (λ t. RefusedWith (s h) request most_lines (string_bytes t))
steps_told s v does request h k n list left before after (Ok text) room each short t =
    record { list = list; left = left; before = before; after = after; room = room; each = each; short = short; reported = t }
steps_told s v does request h k n list left before after (Err (RefusedAs text)) room each short t = rw room at t
steps_told s v does request h k n list left before after (Err (Memory e)) room each short t = tt
