-- A run through its stages. Assumes nothing.
use Rattle.std.proofs.Common.{◌≡◌, Bool, true, false, cond, List, length, Ok, Err, Result, refl, ap, ◌∙◌}
use Rattle.model.specs.declared.order.Order.{Order}
use Rattle.hosts.specs.Survey.{Situation}
use Rattle.hosts.specs.Service.{Service}
use Rattle.hosts.specs.Answers.{Answer}
use Rattle.checking.specs.declared.refusal.CheckRefusal.{CheckRefusal}
use Rattle.checking.specs.declared.stages.CheckedPlan.{CheckedPlan}
use Rattle.checking.specs.declared.stages.Draft.{Draft}
use Rattle.checking.specs.Checking.{checked, is_empty, plan_of}
use Rattle.checking.proofs.Stepping.{never}
use Rattle.executor.specs.declared.fault.StartRefusal.{StartRefusal}
use Rattle.executor.specs.declared.fault.StartRefusal.TheVariants.{NotEmpty}
use Rattle.executor.specs.declared.stages.Finished.{Finished}
use Rattle.executor.specs.declared.stages.RunningPlan.{RunningPlan}
use Rattle.executor.specs.declared.stages.Ticket.{Ticket}
use Rattle.executor.specs.Stages.{finished, first_stage, lines_of, started}
use Rattle.executor.specs.Steps.{beginning, running}
use Rattle.runs.specs.declared.request.Act.{Act}
use Rattle.runs.specs.Taken.{Acted, RanOver}

-- a plan has the lines of the draft
pub plan_lines : (d : Draft) (r : Result (Unit {0}) CheckRefusal) (p : CheckedPlan) → plan_of d r ≡ Ok p → p ≡ record { lines = d.lines }
plan_lines d (Ok x) p e = cc
plan_lines d (Err x) p e = never cc

-- what is started stands at its first line, with nothing on its ticket
pub first_line : (b : Bool) (p : CheckedPlan) (x : RunningPlan × Ticket) →
    cond {A = Result (RunningPlan × Ticket) StartRefusal} b (Ok (first_stage p)) (Err NotEmpty) ≡ Ok x → x ≡ first_stage p
first_line true p x e = cc
first_line false p x e = never cc

module _ {H : Type 0} (s : H → Situation) (v : H → Service) (does : Order → H → H → Answer → Type 0) where
  -- checked, started, taken and finished
  pub ran_over : (h k : H) (d : Draft) (p : CheckedPlan) (q qs : RunningPlan) (t ts : Ticket) (before after : List Act) (f : Finished) →
      checked (s h) d ≡ Ok p → started (s h) p ≡ Ok (q, t) →
      Acted s v does (lines_of q) (running h q t) (running k qs ts) before after → f ≡ finished qs ts →
      RanOver s v does d.lines.now h k before after (record { lines = length d.lines.now; place = f.place; leases = f.leases })
  ran_over h k d p q qs t ts before after f plan begun acted end =
      let first = first_line (is_empty (s h)) p _ begun in
      let same = plan_lines d _ p plan in
      let lines : lines_of q ≡ d.lines.now = ap (λ (z : RunningPlan × Ticket). lines_of z.0) first ∙ ap (λ (z : CheckedPlan). z.lines.now) same in
      let from : running h q t ≡ beginning h = ap (λ (z : RunningPlan × Ticket). running h z.0 z.1) first in
      record {
        last = running k qs ts;
        acted = rw (lines, from) at acted;
        host = refl;
        lines = refl;
        place = ap (λ (z : Finished). z.place) end;
        leases = ap (λ (z : Finished). z.leases) end;
      }
