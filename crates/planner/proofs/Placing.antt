-- Lines in a list, some behind others. Assumes nothing.
use Rattle.std.proofs.Common.{◌≡◌, ℕ, ◌+◌, ◌^◌, ◌-◌, ◌≤◌, List, [], ◌∷◌, ◌++◌, length, map, set, take, drop, suc, refl, sym, ap, ◌∙◌, add-one, add-zero, arith}
use Rattle.std.proofs.lemmas.List.{append_assoc, drop-set-lt, length-set, set_past, take-append-drop, take_more_set}
use Rattle.model.specs.declared.order.Order.{Order}
use Rattle.plans.specs.Lists.{lists_below}
use Rattle.planner.specs.Writing.{Wrote, behind, line_of, place_behind, written_at}

written_then : (xs : List ℕ) (j : ℕ) (os ps : List Order) →
    written_at xs j (os ++ ps) ≡ written_at (written_at xs j os) (place_behind j os) ps
unfolding written_at place_behind
written_then xs j [] ps = refl
written_then xs j (o ∷ os) ps = written_then (set xs j (line_of o)) (behind j) os ps

place_then : (j : ℕ) (os ps : List Order) → place_behind j (os ++ ps) ≡ place_behind (place_behind j os) ps
unfolding place_behind
place_then j [] ps = refl
place_then j (o ∷ os) ps = place_then (behind j) os ps

-- no line
pub wrote_none : (xs : List ℕ) (j : ℕ) → Wrote xs j [] xs j
unfolding written_at place_behind
wrote_none xs j = record { place = refl; lines = refl }

-- one line, where the list has its place, and where it has not
module _ (xs : List ℕ) (j : ℕ) (o : Order) where
  wrote_line : Wrote xs j (o ∷ []) (set xs j (line_of o)) (behind j)
  unfolding written_at place_behind
  wrote_line = record { place = refl; lines = refl }

  pub wrote_there : j + 1 ≤ 2 ^ 64 - 1 → Wrote xs j (o ∷ []) (set xs j (line_of o)) (j + 1)
  wrote_there counted =
      let next : behind j ≡ j + 1 = omega arith in
      rw next at wrote_line

  pub wrote_past : length xs ≤ j → Wrote xs j (o ∷ []) xs (behind j)
  unfolding written_at place_behind
  wrote_past past = record { place = refl; lines = sym (set_past xs j (line_of o) past) }

-- lines behind others
pub wrote_then : {xs ys zs : List ℕ} {j m n : ℕ} {os ps : List Order} →
    Wrote xs j os ys m → Wrote ys m ps zs n → Wrote xs j (os ++ ps) zs n
wrote_then {xs} {ys} {zs} {j} {m} {n} {os} {ps} v w = record {
  place = w.place ∙ ap (λ k. place_behind k ps) v.place ∙ sym (place_then j os ps);
  lines =
      w.lines ∙ ap (λ k. written_at ys k ps) v.place ∙ ap (λ l. written_at l (place_behind j os) ps) v.lines
      ∙ sym (written_then xs j os ps);
}

-- one order between others
module _ (xs : List ℕ) (j : ℕ) (os : List Order) (o : Order) (ps : List Order) where
  pub three_lines : written_at (written_at (written_at xs j os) (place_behind j os) (o ∷ [])) (place_behind (place_behind j os) (o ∷ [])) ps ≡
      written_at xs j (os ++ (o ∷ ps))
  unfolding written_at place_behind
  three_lines = sym (written_then xs j os (o ∷ ps))

  pub three_places : place_behind (place_behind (place_behind j os) (o ∷ [])) ps ≡ place_behind j (os ++ (o ∷ ps))
  unfolding place_behind
  three_places = sym (place_then j os (o ∷ ps))

-- the lines of lists that numbers give, end to end
module _ (f : ℕ → List Order) where
  pub wrote_first : (xs : List ℕ) (j : ℕ) → Wrote xs j (lists_below f 0) xs j
  unfolding lists_below
  wrote_first xs j = wrote_none xs j

  pub wrote_more : {xs ys zs : List ℕ} {j m n : ℕ} (i : ℕ) →
      Wrote xs j (lists_below f i) ys m → Wrote ys m (f i) zs n → Wrote xs j (lists_below f (i + 1)) zs n
  unfolding lists_below
  wrote_more i v w = rw add-one (wrote_then v w)

-- where places can be counted so far, and the list has them
place_counted : (j : ℕ) (os : List Order) → j + length os ≤ 2 ^ 64 - 1 → place_behind j os ≡ j + length os
unfolding place_behind
place_counted j [] counted = omega arith
place_counted j (o ∷ os) counted =
    let next : behind j ≡ j + 1 = omega arith in
    rw next (omega (arith, place_counted (j + 1) os (omega arith)))

written_placed : (xs : List ℕ) (j : ℕ) (os : List Order) →
    j + length os ≤ length xs → j + length os ≤ 2 ^ 64 - 1 →
    written_at xs j os ≡ take j xs ++ (map line_of os ++ drop (j + length os) xs)
unfolding written_at
written_placed xs j [] fits counted = rw add-zero (sym (take-append-drop j xs))
written_placed xs j (o ∷ os) fits counted =
    let next : behind j ≡ j + 1 = omega arith in
    let end : j + suc (length os) ≡ j + 1 + length os = omega arith in
    let x = line_of o in
    let rest = written_placed (set xs j x) (j + 1) os (omega (arith, length-set xs j x)) (omega arith) in
    rw (next, rest, end, take_more_set xs j x (omega arith), append_assoc)
    (ap (λ t. take j xs ++ (x ∷ (map line_of os ++ t))) (drop-set-lt (j + 1 + length os) xs j x (omega arith)))

-- lines from the head of a list on: the place behind them is their number, and where the list has room for them they
-- stand at its head, before what stood behind them
module _ {xs zs : List ℕ} {n : ℕ} {os : List Order} (w : Wrote xs 0 os zs n) (counted : length os ≤ 2 ^ 64 - 1) where
  pub wrote_length : n ≡ length os
  wrote_length = omega (arith, w.place, place_counted 0 os (omega arith))

  pub wrote_lines : length os ≤ length xs → zs ≡ map line_of os ++ drop (length os) xs
  wrote_lines fits =
      let start : 0 + length os ≡ length os = omega arith in
      rw start at (w.lines ∙ written_placed xs 0 os (omega arith) (omega arith))
