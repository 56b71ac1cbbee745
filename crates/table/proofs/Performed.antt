-- The work of the five orders on the records: what stands afterwards, and that the records fit. Assumes nothing.
use Rattle.std.proofs.Common.{◌≡◌, ℕ, ◌+◌, ◌-◌, ◌<◌, ◌≤◌, true, false, not, ◌&&◌, ◌||◌, List, length, get_or, set, replicate, Some, None, Option, sym, refl, ap, ◌∙◌, arith, length-set}
use mathlib.Core.Path.{fun_ext}
use Rattle.model.specs.declared.binding.Binding.{Binding}
use Rattle.model.specs.declared.pair.Pair.{Pair}
use Rattle.model.specs.declared.order.Order.{Order}
use Rattle.model.specs.declared.order.Order.TheVariants.{Create, Bind, Change, Unbind, Delete}
use Rattle.model.specs.Config.{Config, moved, pair, stands}
use Rattle.model.specs.Orders.{put, result_of, same}
use Rattle.model.specs.Counts.{instances, bindings}
use Rattle.model.proofs.Searches.{any_none}
use Rattle.model.proofs.Results.{bind_at, bind_inst, bind_off, change_bound, create_bound, unbind_at, unbind_inst, unbind_off}
use Rattle.model.proofs.Counting.{bindings_more, bindings_none, bindings_same, change_counts, create_counts, delete_counts, instances_most, instances_none, instances_same}
use Rattle.table.specs.declared.row.Row.{Row}
use Rattle.table.specs.Rows.{held, total, Formed, Holds, Kept}
use Rattle.table.specs.Fit.{Fit, config, standing}
use Rattle.table.proofs.RowSearch.{row_count, rows_most}
use Rattle.table.proofs.RowMoves.{held_kept}
use Rattle.table.proofs.RowTurns.{kept_formed}
use Rattle.table.proofs.Slots.{all_vacant, standing_within, written}

-- configurations with the same instances and bindings are one
pub alike : (c d : Config) → ((z : ℕ) → c.inst z ≡ d.inst z) → ((p x y : ℕ) → c.bound p x y ≡ d.bound p x y) → c ≡ d
alike c d inst bound = λ i. record { inst = fun_ext inst i; bound = fun_ext (λ p. fun_ext (λ x. fun_ext (bound p x))) i }

module _ (slots : List (Option Pair)) (rows : List Row) (len count bound : ℕ) (fit : Fit slots rows len count bound) where
  abbrev c : Config
  c = config slots rows len

  -- the rows hold as many bindings as stand
  pub total_counts : total rows len ≡ bound
  total_counts = sym (row_count (standing slots) rows len fit.formed.ordered) ∙ sym fit.bound_counted

  -- no row is empty, so where there is room for a binding there is room for a row
  pub len_most : len ≤ bindings 32 256 c
  len_most = omega (arith, rows_most rows len fit.formed.filled, total_counts, fit.bound_counted)

  pub count_most : count ≤ 256
  count_most = let h = instances_most 256 c in omega (arith, fit.counted)

  -- the records fit where the arrays stay full, the rows rise and are not empty, and instances and bindings are counted
  finish : (o : Order) (slots' : List (Option Pair)) (rows' : List Row) (len' count' bound' : ℕ) → config slots' rows' len' ≡ result_of o c →
      length slots' ≡ length slots → length rows' ≡ length rows → len' ≤ length rows' → Formed rows' len' →
      count' ≡ instances 256 (result_of o c) → bound' ≡ bindings 32 256 (result_of o c) → Fit slots' rows' len' count' bound'
  finish o slots' rows' len' count' bound' config' size room most formed counts bounds =
      record {
        sized = size ∙ fit.sized;
        room = room ∙ fit.room;
        most = omega (arith, most, room, fit.room);
        formed = formed;
        counted = counts ∙ ap (instances 256) (sym config');
        bound_counted = bounds ∙ ap (bindings 32 256) (sym config');
      }

  most_rows : len ≤ length rows
  most_rows = omega (arith, fit.most, fit.room)

  module _ (z : ℕ) (low : z < 256) where
    slot_written : (s : Option Pair) (y : ℕ) → standing (set slots z s) y ≡ put (standing slots) z s y
    slot_written s = written slots z s low (omega (arith, fit.sized))

    module _ (k : ℕ) (out : stands (c.inst z) ≡ false) where
      pub created : config (set slots z (Some (pair k 0))) rows len ≡ result_of (Create z k) c
      unfolding result_of
      created = alike _ _ (slot_written _) (λ p x y. refl)

      pub created_fit : Fit (set slots z (Some (pair k 0))) rows len (count + 1) bound
      created_fit =
          finish (Create z k) _ rows len (count + 1) bound created (length-set _ _ _) refl most_rows fit.formed
          (ap (λ n. n + 1) fit.counted ∙ sym (create_counts 256 c z k low out))
          (fit.bound_counted ∙ sym (bindings_same 32 256 c (result_of (Create z k) c) (create_bound c z k)))

    module _ (q : ℕ) (s : Option Pair) (is : s ≡ moved (get_or slots z None) q) where
      pub changed : config (set slots z s) rows len ≡ result_of (Change z q) c
      unfolding result_of
      changed =
          alike _ _ (λ y. slot_written s y ∙ ap (λ o. put (standing slots) z o y) (is ∙ ap (λ o. moved o q) (sym (standing_within slots z low))))
          (λ p x y. refl)

      pub changed_fit : Fit (set slots z s) rows len count bound
      changed_fit =
          finish (Change z q) _ rows len count bound changed (length-set _ _ _) refl most_rows fit.formed
          (fit.counted ∙ sym (change_counts 256 c z q))
          (fit.bound_counted ∙ sym (bindings_same 32 256 c (result_of (Change z q) c) (change_bound c z q)))

    module _ (was : stands (c.inst z) ≡ true) where
      pub count_some : 0 < count
      count_some = omega (arith, fit.counted, delete_counts 256 c z low was)

      module _ (ys : List Row) (m d : ℕ) (size : length ys ≡ length rows) (kept : Kept rows ys len m z d) where
        pub deleted : config (set slots z None) ys m ≡ result_of (Delete z) c
        unfolding result_of
        deleted = alike _ _ (slot_written None) (held_kept rows ys len m z d kept)

        -- no more go than stood
        pub dropped_most : d ≤ bound
        dropped_most = omega (arith, kept.counted, total_counts)

        pub deleted_fit : Fit (set slots z None) ys m (count - 1) (bound - d)
        deleted_fit =
            finish (Delete z) _ ys m (count - 1) (bound - d) deleted (length-set _ _ _) size (omega (arith, kept.fewer, fit.most, fit.room, size))
            (kept_formed rows ys len m z d fit.formed kept)
            (omega (arith, fit.counted, delete_counts 256 c z low was))
            (left ∙ ap (bindings 32 256) deleted)
          where
            left : bound - d ≡ bindings 32 256 (config (set slots z None) ys m)
            left = omega (arith, kept.counted, total_counts, row_count (standing (set slots z None)) ys m kept.ordered)

  -- a binding
  module _ (j : Binding) (range : (j.port < 32) × (j.provider < 256) × (j.requirer < 256)) (ys : List Row) (m : ℕ) (size : length ys ≡ length rows) where
    module _ (out : c.bound j.port j.provider j.requirer ≡ false) (holds : Holds ys m (λ p x y. held rows len p x y || same j.port j.provider j.requirer p x y)) where
      pub bound_to : config slots ys m ≡ result_of (Bind j) c
      unfolding result_of
      bound_to = alike _ _ (λ z. refl) holds.held

      pub bound_fit : Fit slots ys m count (bound + 1)
      bound_fit =
          let more = bindings_more 32 256 c (result_of (Bind j) c) j.port j.provider j.requirer range.0 range.1 range.2 (bind_off c j) out (bind_at c j) in
          finish (Bind j) slots ys m count (bound + 1) bound_to refl size holds.most holds.formed
          (fit.counted ∙ sym (instances_same 256 c (result_of (Bind j) c) (λ z. ap stands (bind_inst c j z))))
          (omega (arith, fit.bound_counted, more))

    module _ (was : c.bound j.port j.provider j.requirer ≡ true) where
      less : bindings 32 256 c ≡ bindings 32 256 (result_of (Unbind j) c) + 1
      less =
          bindings_more 32 256 (result_of (Unbind j) c) c j.port j.provider j.requirer range.0 range.1 range.2
          (λ p' x' y' ne. sym (unbind_off c j p' x' y' ne)) (unbind_at c j) was

      pub bound_some : 0 < bound
      bound_some = omega (arith, fit.bound_counted, less)

      module _ (holds : Holds ys m (λ p x y. held rows len p x y && not (same j.port j.provider j.requirer p x y))) where
        pub unbound_from : config slots ys m ≡ result_of (Unbind j) c
        unfolding result_of
        unbound_from = alike _ _ (λ z. refl) holds.held

        pub unbound_fit : Fit slots ys m count (bound - 1)
        unbound_fit =
            finish (Unbind j) slots ys m count (bound - 1) unbound_from refl size holds.most holds.formed
            (fit.counted ∙ sym (instances_same 256 c (result_of (Unbind j) c) (λ z. ap stands (unbind_inst c j z))))
            (omega (arith, fit.bound_counted, less))

-- nothing stands in new records
pub new_fit : (rows : List Row) → length rows ≡ 2048 → Fit (replicate 256 None) rows 0 0 0
new_fit rows size =
    record {
      sized = refl;
      room = size;
      most = omega arith;
      formed = record { ordered = λ i j a l. absurd (omega arith); filled = λ i l. absurd (omega arith) };
      counted = sym (instances_none 256 (config (replicate 256 None) rows 0) all_vacant);
      bound_counted = sym (bindings_none 32 256 (config (replicate 256 None) rows 0) (λ p x y. any_none _));
    }
