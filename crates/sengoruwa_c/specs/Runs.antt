-- What a call that runs a draft does on a host.
use Rattle.std.specs.Prelude.{◌≡◌, ℕ, ◌-◌, List, length, map, Result}
use Rattle.model.specs.declared.order.Order.{Order}
use Rattle.hosts.specs.declared.load.Load.{Load}
use Rattle.hosts.specs.Survey.{Situation, bindings_of, instances_of}
use Rattle.hosts.specs.Service.{Service}
use Rattle.hosts.specs.Answers.{Answer}
use Rattle.executor.specs.declared.fault.StepFault.{StepFault}
use Rattle.executor.specs.Steps.{Running, TakesAll, beginning}
use Rattle.sengoruwa_c.specs.declared.records.Ended.{Ended}
use Rattle.sengoruwa_c.specs.Filled.{filled}
use Rattle.sengoruwa_c.specs.Numbers.{standing_number, step_number}

-- a run's end at a place with so many leases, and what stands in the host and is put off and allowed there
abbrev pub ended_told : ℕ → ℕ → Situation → Load → Ended
ended_told place leases s l = record {
  place = place;
  leases = leases;
  instances = instances_of s;
  bindings = bindings_of s;
  waits = l.waits;
  creations = l.creations;
  binds = l.bindings;
}

-- what stands under each of the numbers below 256, written into the list
abbrev pub standing_told : Situation → List ℕ → List ℕ
standing_told s xs = filled (λ z. standing_number (s.config.inst z)) 256 xs

-- s and v tell what a host means, and `does` just what it does
module _ {H : Type 0} (s : H → Situation) (v : H → Service) (does : Order → H → H → Answer → Type 0) where
  -- steps were taken over the lines, one for each place of the list, which then holds the numbers of their answers
  pub record Stepped (xs : List ℕ) (a b : Running H) (before after : List ℕ) : Type 0 where
    pub told : List (Result (Unit {0}) StepFault)
    pub steps : TakesAll s v does xs a told b
    pub each : length told ≡ length before
    pub answers : after ≡ map step_number told

  -- the lines were run so from the host h to the host k, and this is told of it
  pub record RanOn (xs : List ℕ) (h k : H) (answers_before answers_after standing_before standing_after : List ℕ) (e : Ended) : Type 0 where
    pub last : Running H
    pub stepped : Stepped xs (beginning h) last answers_before answers_after
    pub host : last.host ≡ k
    pub standing : standing_after ≡ standing_told (s k) standing_before
    pub ended : e ≡ ended_told last.place (last.made - last.ended) (s k) (v k).load
