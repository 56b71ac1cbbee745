-- An order that no rule refuses can be worked on the records, and what it leaves is a table again. Assumes nothing.
use Rattle.std.proofs.Common.{◌≡◌, ℕ, ◌≤◌, Bool, false, List, Some, None, Option, sym, refl, subst, ◌∙◌, arith}
use Rattle.std.proofs.lemmas.Bool.{eqb-false}
use Rattle.model.specs.declared.order.Order.{Order}
use Rattle.model.specs.declared.order.Order.TheVariants.{Create, Bind, Change, Unbind, Delete}
use Rattle.model.specs.Config.{Config}
use Rattle.model.proofs.Searches.{any_found}
use Rattle.model.specs.declared.pair.Pair.{Pair}
use Rattle.model.specs.Universe.{Universe}
use Rattle.model.specs.Orders.{result_of}
use Rattle.hosts.specs.declared.refusal.Offence.{Offence}
use Rattle.hosts.specs.declared.refusal.Reason.TheVariants.{Full}
use Rattle.hosts.specs.Survey.{Lawful}
use Rattle.hosts.specs.Offences.{offence, refused_if}
use Rattle.hosts.specs.Answers.{illegal_or, full_test}
use Rattle.hosts.proofs.Offending.{bind_range, change_range, lawful_after, none_if, offence_none, unbind_range}
use Rattle.table.specs.declared.row.Row.{Row}
use Rattle.table.specs.declared.limits.Limits.{Limits}
use Rattle.table.specs.Rows.{joins, row}
use Rattle.table.specs.Fit.{Ranged, config}
use Rattle.table.specs.Records.{Able}
use Rattle.table.proofs.RowSearch.{joins_self}
use Rattle.table.specs.Table.{Held, load_of, table_rule}

clear : (x : Option Offence) (f : Bool) → illegal_or x (refused_if f Full None) ≡ None → (x ≡ None) × (f ≡ false)
clear (Some e) f h = absurd (let z : ◌≡◌ {A = ℕ} 0 1 = cc in omega arith)
clear None f h = (refl, (none_if f Full None h).0)

module _ (o : Order) (h : Held) (none : table_rule o h ≡ None) where
  -- no offence, and room
  pub no_offence : offence o h.situation ≡ None
  unfolding table_rule
  no_offence = (clear (offence o h.situation) (full_test o (load_of 0 h)) none).0

  not_full : full_test o (load_of 0 h) ≡ false
  unfolding table_rule
  not_full = (clear (offence o h.situation) (full_test o (load_of 0 h)) none).1

-- the records can be worked on
pub able : (o : Order) (h : Held) → Lawful h.situation → h.limits.bindings ≤ 2048 → table_rule o h ≡ None → Able h.situation.config o
able (Create z t) h law room none =
    let l = offence_none h.situation law (Create z t) (no_offence (Create z t) h none) in
    (l.1, omega (arith, l.0.1, law.valid.types.1), l.0.0)
able (Bind j) h law room none =
    let e = no_offence (Bind j) h none in
    let r = bind_range h.situation law j e in
    let l = offence_none h.situation law (Bind j) e in
    (omega (arith, r.0, law.valid.ports), r.1, r.2, l.0.new, omega (arith, eqb-false _ _ (not_full (Bind j) h none)))
able (Change z q) h law room none =
    let r = change_range h.situation law z q (no_offence (Change z q) h none) in
    (r.0, omega (arith, r.1))
able (Unbind j) h law room none =
    let e = no_offence (Unbind j) h none in
    let r = unbind_range h.situation law j e in
    (omega (arith, r.0, law.valid.ports), r.1, r.2, (offence_none h.situation law (Unbind j) e).0)
able (Delete z) h law room none =
    let l = offence_none h.situation law (Delete z) (no_offence (Delete z) h none) in
    (l.1, l.0.stands)

-- where nothing stands out of range, no port of a row is
rows_ranged : (u : Universe) (slots : List (Option Pair)) (rows : List Row) (n : ℕ) → Lawful (record { universe = u; config = config slots rows n }) → Ranged u.ports rows n
rows_ranged u slots rows n law i p l has_it =
    let b = row rows i in
    (law.bound p b.provider b.requirer (any_found (λ k. joins (row rows k) p b.provider b.requirer) i n l (joins_self b p ∙ has_it))).0

module _ (u : Universe) (c : Config) (l : Limits) (o : Order) (law : Lawful (record { universe = u; config = c })) (none : table_rule o (record { situation = record { universe = u; config = c }; limits = l }) ≡ None) where
  -- the rows after the order
  pub done_ranged : (slots : List (Option Pair)) (rows : List Row) (n : ℕ) → config slots rows n ≡ result_of o c → Ranged u.ports rows n
  done_ranged slots rows n done =
      let P : Config → Type 0 = λ c. Lawful (record { universe = u; config = c }) in
      rows_ranged u slots rows n (subst P (sym done) (lawful_after (record { universe = u; config = c }) law o (no_offence o _ none)))
