-- What start yields, and what finish answers.
use Rattle.std.specs.Prelude.{◌≡◌, ◌↔◌, ℕ, ◌-◌, List, Ok, Err, IsOk, Result, cond}
use Rattle.model.specs.Config.{empty}
use Rattle.hosts.specs.Survey.{Situation}
use Rattle.checking.specs.Checking.{is_empty}
use Rattle.checking.specs.declared.stages.CheckedPlan.{CheckedPlan}
use Rattle.executor.specs.declared.fault.StartRefusal.{StartRefusal}
use Rattle.executor.specs.declared.fault.StartRefusal.TheVariants.{NotEmpty}
use Rattle.executor.specs.declared.stages.Finished.{Finished}
use Rattle.executor.specs.declared.stages.RunningPlan.{RunningPlan}
use Rattle.executor.specs.declared.stages.Ticket.{Ticket}

-- the lines of a running plan
abbrev pub lines_of : RunningPlan → List ℕ
lines_of p = p.plan.lines.now

-- the leases: binds done less bindings ended
abbrev pub leases_on : Ticket → ℕ
leases_on t = t.made - t.ended

-- at its start a plan stands at place 0, and nothing was made or ended
abbrev pub first_stage : CheckedPlan → RunningPlan × Ticket
first_stage p = (record { plan = p; place = 0 }, record { made = 0; ended = 0 })

-- where something stands in the host, start is refused
abbrev pub started : Situation → CheckedPlan → Result (RunningPlan × Ticket) StartRefusal
started s p = cond (is_empty s) (Ok (first_stage p)) (Err NotEmpty)

-- it starts exactly if nothing stands in the host
abbrev pub StartedUnless : {X : Type 0} → Situation → Result X StartRefusal → Type 0
StartedUnless s r = IsOk r ↔ (s.config ≡ empty)

-- where the run was finished, at any place
abbrev pub finished : RunningPlan → Ticket → Finished
finished p t = record { place = p.place; leases = leases_on t }
