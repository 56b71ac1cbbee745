-- The turns of the loop over the lines of a text.
use Rattle.std.proofs.Common.{◌≡◌, ℕ, suc, ◌+◌, ◌<◌, ◌≤◌, ◌⊎◌, inl, inr, Bool, true, false, cond, eqb, List, [], ◌∷◌, ◌++◌, length, get_or, drop, Some, None, Ok, Err, Option, Result, Bor, sym, refl, ap, ◌∙◌, append-nil, add-one, zero-add, arith}
use Rattle.std.specs.Fn.{Mut, CalledAt}
use Rattle.std.specs.Iterator.{Yields}
use Rattle.std.specs.Iterator.Adapters.{enumerate_source, enumerate_count, enumerate_steps}
use Rattle.std.specs.Slice.Iter.{split_rest, split_done, split_callee, split_steps}
use Rattle.std.specs.List.{slice_split, onto_first, enumerate_from}
use Rattle.std.proofs.lemmas.Iterator.{YieldsList}
use Rattle.std.proofs.lemmas.Iterator.Consumers.{YieldsList-at, YieldsList-from_enumerate, YieldsList-turn, YieldsList-end}
use Rattle.std.proofs.lemmas.Iterator.Splits.{YieldsList-from_slice_split}
use Rattle.std.proofs.lemmas.List.{at_drop_more, at_drop_all}
use Rattle.std.proofs.lemmas.List.FromFn.{length-enumerate_from, get_or-enumerate_from}
use Rattle.model.specs.declared.order.Order.{Order}
use Rattle.scripts.specs.Scripts.{after, text_lines, line_orders, judged, orders_from, orders_of}
use Rattle.scripts.proofs.ScriptLists.{after_append, after_ok, after_err}

-- the lines of a text, as the library cuts it at each byte 10
abbrev pub pieces : List ℕ → List (List ℕ)
pieces bs = slice_split (λ b. eqb b 10) bs

-- the same lists, or an empty one more at the end
abbrev Trailed : List (List ℕ) → List (List ℕ) → Type 0
Trailed ls ms = (ms ≡ ls) ⊎ (ms ≡ ls ++ ([] ∷ []))

trailed_front : (b : ℕ) (ls ms : List (List ℕ)) → Trailed ls ms → Trailed (onto_first b ls) (onto_first b ms)
trailed_front b ls ms (inl e) = inl (ap (onto_first b) e)
trailed_front b [] ms (inr e) = inl (ap (onto_first b) e)
trailed_front b (l ∷ ls) ms (inr e) = inr (ap (onto_first b) e)

-- one byte more, by whether it ends a line
trailed_byte : (b : ℕ) (ls ms : List (List ℕ)) (t : Bool) → Trailed ls ms → Trailed (cond t ([] ∷ ls) (onto_first b ls)) (cond t ([] ∷ ms) (onto_first b ms))
trailed_byte b ls ms true (inl e) = inl (ap (λ x. [] ∷ x) e)
trailed_byte b ls ms true (inr e) = inr (ap (λ x. [] ∷ x) e)
trailed_byte b ls ms false h = trailed_front b ls ms h

-- the pieces are the lines, and where the last byte is 10, or there is none, an empty one behind them
trailed : (bs : List ℕ) → Trailed (text_lines bs) (pieces bs)
unfolding text_lines
trailed [] = inr refl
trailed (b ∷ bs) = trailed_byte b (text_lines bs) (pieces bs) (eqb b 10) (trailed bs)

-- an empty line tells nothing
empty_passed : line_orders [] ≡ Some []
unfolding line_orders
empty_passed = refl

-- so that an empty piece at the end changes nothing
orders_trailed : (n : ℕ) (ls : List (List ℕ)) → orders_from n (ls ++ ([] ∷ [])) ≡ orders_from n ls
unfolding orders_from
orders_trailed n [] = ap (λ o. judged n o (Ok [])) empty_passed
orders_trailed n (l ∷ ls) = ap (judged n (line_orders l)) (orders_trailed (suc n) ls)

orders_same : (n : ℕ) (ls ms : List (List ℕ)) → Trailed ls ms → orders_from n ms ≡ orders_from n ls
orders_same n ls ms (inl e) = ap (orders_from n) e
orders_same n ls ms (inr e) = ap (orders_from n) e ∙ orders_trailed n ls

-- the orders of a text are those of its pieces
pub orders_start : (bs : List ℕ) → after [] (orders_from 1 (pieces bs)) ≡ orders_of bs
orders_start bs = orders_same 1 (text_lines bs) (pieces bs) (trailed bs)

-- an iterator that gives the pieces, each with its number
abbrev pub Numbers : {S : Type 0} → (S → Option (ℕ × Bor (List ℕ)) → S → Type 0) → S → List (List ℕ) → Type 0
Numbers steps s ls = YieldsList {B = ℕ × List ℕ} steps (λ p. (p.0, p.1.now)) s (enumerate_from 0 ls)

module _ {S : Type 0} {steps : S → Option (ℕ × Bor (List ℕ)) → S → Type 0} {s : S} (xs : List (ℕ × Bor (List ℕ))) (t : S) (y : Yields steps s xs t) (r : Option (ℕ × Bor (List ℕ))) (u : S)
    (ls : List (List ℕ)) where
  -- the piece of a turn, with its number
  pub piece_turn : (x : ℕ × Bor (List ℕ)) → r ≡ Some x → steps t r u → Numbers steps s ls → (length xs < length ls) × (x.0 ≡ length xs) × (x.1.now ≡ get_or ls (length xs) x.1.now)
  piece_turn x e h road =
      let turn = YieldsList-turn road xs t y r u x e h in
      let short : length xs < length ls = omega (arith, turn.0, length-enumerate_from 0 ls) in
      let at = turn.1 ∙ get_or-enumerate_from 0 ls (length xs) (x.0, x.1.now) short in
      (short, ap (λ p. p.0) at ∙ zero-add (length xs), ap (λ p. p.1) at)

  -- behind the last piece
  pub piece_end : r ≡ None → steps t r u → Numbers steps s ls → length ls ≤ length xs
  piece_end e h road = omega (arith, (YieldsList-end road xs t y r u e h).1, length-enumerate_from 0 ls)

-- the library's cut gives the pieces
pub numbers_of : {F : Type 0} (g : Mut F (Bor ℕ × Unit {0}) Bool) {split : _} {s : _} {f : F} (bs : List ℕ)
    → split_rest split ≡ bs → split_done split ≡ false → split_callee split ≡ f → enumerate_source s ≡ split → enumerate_count s ≡ 0
    → ((x : ℕ) (b : Bool) (q : F) → CalledAt g f x b q → (q ≡ f) × (b ≡ eqb x 10)) → Numbers (enumerate_steps (split_steps g)) s (pieces bs)
numbers_of g bs rest done callee source count calls =
    YieldsList-from_enumerate (YieldsList-at source (YieldsList-from_slice_split g (λ b. eqb b 10) bs rest done callee calls)) count

module _ (orders : List Order) (ls : List (List ℕ)) (n : ℕ) (all : Result (List Order) ℕ) (so_far : after orders (orders_from (n + 1) (drop n ls)) ≡ all) where
  -- by what the line there tells
  orders_step : (line : List ℕ) (told : Option (List Order)) → n < length ls → line ≡ get_or ls n line → line_orders line ≡ told
      → after orders (judged (n + 1) told (orders_from (n + 1 + 1) (drop (n + 1) ls))) ≡ all
  unfolding orders_from
  orders_step line told h at e =
      sym (ap (after orders)
      (at_drop_more (orders_from (n + 1)) ls n line h
      ∙ ap (λ o. judged (n + 1) o (orders_from (suc (n + 1)) (drop (n + 1) ls))) (ap line_orders (sym at) ∙ e)
      ∙ ap (λ k. judged (n + 1) told (orders_from k (drop (n + 1) ls))) (sym (add-one (n + 1)))))
      ∙ so_far

  -- a line that can be read, and the rest follows
  pub orders_more : (line : List ℕ) (told : List Order) → n < length ls → line ≡ get_or ls n line → line_orders line ≡ Some told
      → after (orders ++ told) (orders_from (n + 1 + 1) (drop (n + 1) ls)) ≡ all
  orders_more line told h at e = after_append orders told (orders_from (n + 1 + 1) (drop (n + 1) ls)) ∙ orders_step line (Some told) h at e

  -- a line that cannot be read
  pub orders_bad : (line : List ℕ) → n < length ls → line ≡ get_or ls n line → line_orders line ≡ None → Err (n + 1) ≡ all
  orders_bad line h at e = sym (after_err orders (n + 1)) ∙ orders_step line None h at e

  -- all is read
  pub orders_end : length ls ≤ n → Ok orders ≡ all
  unfolding orders_from
  orders_end h = sym (ap (after orders) (at_drop_all (orders_from (n + 1)) ls n h) ∙ after_ok orders [] ∙ ap Ok (append-nil orders)) ∙ so_far
