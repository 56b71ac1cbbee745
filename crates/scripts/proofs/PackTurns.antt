-- The turns of the loop that packs orders.
use Rattle.std.proofs.Common.{◌≡◌, ℕ, ◌+◌, ◌<◌, ◌≤◌, List, [], ◌++◌, length, get_or, drop, Ok, Err, Result, sym, ap, ◌∙◌, append-nil, add-one}
use Rattle.std.proofs.lemmas.List.{at_drop_more, at_drop_all}
use Rattle.model.specs.declared.order.Order.{Order}
use Rattle.lines.specs.declared.refusal.LineRefusal.{LineRefusal}
use Rattle.console.specs.declared.failure.Failure.{Failure}
use Rattle.console.specs.declared.failure.Failure.TheVariants.{Refused, Memory}
use Rattle.console.specs.Told.{Told}
use Rattle.scripts.specs.declared.PackFault.{PackFault}
use Rattle.scripts.specs.Scripts.{after, line_of, line_bytes_of, packed_line, packed}
use Rattle.scripts.proofs.ScriptLists.{after_append, after_ok, after_err}

-- the bytes of one line, and those of what follows it
line_then : (place : ℕ) (l : Result ℕ LineRefusal) (line : List ℕ) (rest : Result (List ℕ) PackFault) → Ok line ≡ packed_line place l (Ok []) → packed_line place l rest ≡ after line rest
line_then place (Ok x) line rest e = let same : line ≡ line_bytes_of x = cc in ap (λ bs. after bs rest) (sym same)
line_then place (Err r) line rest e = cc

-- the fault of a line is the fault of the whole
fault_then : (place : ℕ) (l : Result ℕ LineRefusal) (f : PackFault) (rest : Result (List ℕ) PackFault) → Err f ≡ packed_line place l (Ok []) → packed_line place l rest ≡ Err f
fault_then place (Ok x) f rest e = cc
fault_then place (Err r) f rest e = sym e

module _ (before : List ℕ) (os : List Order) (i : ℕ) (all : Result (List ℕ) PackFault) (so_far : after before (packed i (drop i os)) ≡ all) where
  -- what is packed from a place on, by the order there
  packed_step : (d : Order) → i < length os → after before (packed_line i (line_of (get_or os i d)) (packed (i + 1) (drop (i + 1) os))) ≡ all
  unfolding packed
  packed_step d h =
      sym (ap (after before)
      (at_drop_more (packed i) os i d h
      ∙ ap (λ k. packed_line i (line_of (get_or os i d)) (packed k (drop (i + 1) os))) (sym (add-one i))))
      ∙ so_far

  -- a line is packed, and the rest follows
  pub packed_more : (d : Order) (bytes line : List ℕ) → i < length os → Ok line ≡ packed_line i (line_of (get_or os i d)) (Ok []) → bytes ≡ before ++ line
      → after bytes (packed (i + 1) (drop (i + 1) os)) ≡ all
  packed_more d bytes line h told pushed =
      ap (λ bs. after bs (packed (i + 1) (drop (i + 1) os))) pushed
      ∙ after_append before line (packed (i + 1) (drop (i + 1) os))
      ∙ ap (after before) (sym (line_then i (line_of (get_or os i d)) line (packed (i + 1) (drop (i + 1) os)) told))
      ∙ packed_step d h

  -- an order that has no line is the fault
  pub packed_fault : (d : Order) (f : PackFault) → i < length os → Err f ≡ packed_line i (line_of (get_or os i d)) (Ok []) → Err f ≡ all
  packed_fault d f h told =
      sym (after_err before f) ∙ ap (after before) (sym (fault_then i (line_of (get_or os i d)) f (packed (i + 1) (drop (i + 1) os)) told)) ∙ packed_step d h

  -- a failure at an order is the failure of the whole
  pub packed_failed : {T : Type 0} (shown : T → List ℕ) (d : Order) (x : Failure PackFault) → i < length os → Told (λ (l : List ℕ). l) (λ e. e) (Err x) (packed_line i (line_of (get_or os i d)) (Ok [])) → Told shown (λ e. e) (Err x) all
  packed_failed shown d (Refused f) h told = packed_fault d f h told
  packed_failed shown d (Memory a) h told = tt

  -- behind the last order nothing is packed
  pub packed_end : length os ≤ i → Ok before ≡ all
  unfolding packed
  packed_end h = sym (ap (after before) (at_drop_all (packed i) os i h) ∙ after_ok before [] ∙ ap Ok (append-nil before)) ∙ so_far
