-- Runs of a script over a host, step by step.
use Rattle.std.specs.Prelude.{◌≡◌, ℕ, ◌+◌, ◌-◌, not, cond, ◌&&◌, List, [], ◌∷◌, Some, None, Option, slice_get}
use Rattle.model.specs.declared.order.Order.{Order}
use Rattle.model.specs.Config.{Config}
use Rattle.model.specs.Counts.{bindings}
use Rattle.hosts.specs.Answers.{Answer, Answered, Meaning, is_bind, is_done}

-- how far a run has come: what its host means, the place in the script, how many binds were done, and how many
-- bindings ended
pub record Progress : Type 0 where
  pub host : Meaning
  pub place : ℕ
  pub made : ℕ
  pub ended : ℕ

-- the leases: binds done less bindings ended
abbrev pub leases : Progress → ℕ
leases a = a.made - a.ended

-- at its start a run is at place 0, and has neither made nor ended a binding
abbrev pub begun : Meaning → Progress
begun m = record { host = m; place = 0; made = 0; ended = 0 }

-- how many bindings stand in c and not in d
abbrev pub ended_between : Config → Config → ℕ
ended_between c d = bindings 32 256 (record { inst = c.inst; bound = λ p x y. c.bound p x y && not (d.bound p x y) })

-- the host is given the order and answers r; the place moves where it is done, a bind done is one more made, and the
-- bindings that it ends are counted
pub record Ordered (o : Order) (a : Progress) (r : Answer) (b : Progress) : Type 0 where
  pub host : Answered o a.host b.host r
  pub place : b.place ≡ a.place + cond (is_done r) 1 0
  pub made : b.made ≡ a.made + cond (is_done r && is_bind o) 1 0
  pub ended : b.ended ≡ a.ended + ended_between a.host.situation.config b.host.situation.config

-- the host is given the line at the place, and answers; where no line is left, nothing is done and nothing answers
abbrev pub Stepped : Option Order → Progress → Option Answer → Progress → Type 0
Stepped (Some o) a (Some r) b = Ordered o a r b
Stepped (Some o) a None b = ⊥
Stepped None a (Some r) b = ⊥
Stepped None a None b = b ≡ a

-- a step: the host's answer, if there was a line to order, and how far the run has come after it
pub record Step : Type 0 where
  pub answer : Option Answer
  pub progress : Progress

-- the steps of a run of the script, from a on: each begins where the one before ended
unfoldable pub Steps : List Order → Progress → List Step → Type 0
Steps os a [] = Unit {0}
Steps os a (t ∷ ts) = Stepped (slice_get os a.place) a t.answer t.progress × Steps os t.progress ts

-- how far the run has come after the steps
unfoldable pub reached : Progress → List Step → Progress
reached a [] = a
reached a (t ∷ ts) = reached t.progress ts
