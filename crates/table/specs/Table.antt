-- What a table means, and what an order does to it.
use Rattle.std.specs.Prelude.{ℕ, ◌-◌, ◌&&◌, ◌==◌, Some, None, Ok, Err, Option, Result}
use Rattle.std.proofs.Common.{arith}
use Rattle.std.proofs.lemmas.Bool.{and_parts, eqb-true, le-ltb}
use Rattle.model.specs.declared.order.Order.{Order}
use Rattle.universe.proofs.Sounds.{sound}
use Rattle.model.specs.Orders.{result_of}
use Rattle.model.proofs.Searches.{any_some}
use Rattle.universe.specs.Held.{universe_in}
use Rattle.universe.specs.Sets.{has}
use Rattle.hosts.specs.declared.refusal.Reason.{Reason}
use Rattle.hosts.specs.declared.refusal.Reason.TheVariants.{Full}
use Rattle.hosts.specs.Survey.{Situation, Lawful, instances_of, bindings_of}
use Rattle.hosts.specs.declared.load.Load.{Load}
use Rattle.hosts.specs.Offences.{offence, refused_if}
use Rattle.hosts.specs.Answers.{illegal_or, full_test}
use Rattle.table.specs.declared.table.Table.{Table}
use Rattle.table.specs.declared.limits.Limits.{Limits}
use Rattle.table.specs.Rows.{row, joins}
use Rattle.table.specs.Records.{config_of}

-- what stands, and how much may
pub record Held : Type 0 where
  pub situation : Situation
  pub limits : Limits

-- the universe and the configuration of a table
abbrev pub situation_of : Table → Situation
situation_of t = record { universe = universe_in t.universe; config = config_of t.records }

abbrev pub held_of : Table → Held
held_of t = record { situation = situation_of t; limits = t.limits }

-- the allowances are the limits less what stands
abbrev pub load_of : ℕ → Held → Load
load_of w h = record {
  waits = w;
  creations = h.limits.instances - instances_of h.situation;
  bindings = h.limits.bindings - bindings_of h.situation;
}

-- the rule that refuses the order: the first offence, or full
unfoldable pub table_rule : Order → Held → Option Reason
table_rule o h = illegal_or (offence o h.situation) (refused_if (full_test o (load_of 0 h)) Full None)

-- the rule as an answer
abbrev pub told : Option Reason → Result (Unit {0}) Reason
told None = Ok tt
told (Some e) = Err e

-- a done order leads to its result, a refused one leaves what stood
abbrev pub applied : Order → Option Reason → Held → Held
applied o None h = record {
  situation = record { universe = h.situation.universe; config = result_of o h.situation.config };
  limits = h.limits;
}
applied o (Some e) h = h

-- a table keeps the law of surveys
pub lawful_of : (t : Table) → Lawful (situation_of t)
lawful_of t =
    record {
      valid = (sound t.universe.tables t.universe.sound).valid;
      inst = λ z out. rw (le-ltb z 256 out);
      bound = λ p x y b.
          let r = t.records in
          let f = any_some (λ i. joins (row r.rows i) p x y) r.len b in
          let j = row r.rows f.0 in
          let k = j.in_range in
          let ends = and_parts (has 32 j.ports p && j.provider == x) (j.requirer == y) f.2 in
          let from = and_parts (has 32 j.ports p) (j.provider == x) ends.0 in
          (t.ranged f.0 p f.1 from.0, omega (arith, eqb-true _ _ from.1, k), omega (arith, eqb-true _ _ ends.1, k));
    }
