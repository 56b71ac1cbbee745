-- Items read in a row, one turn of a loop after the other.
use Rattle.std.proofs.Common.{◌≡◌, ℕ, suc, ◌+◌, ◌-◌, ◌*◌, ◌<◌, ◌≤◌, List, [], ◌∷◌, ◌++◌, length, take, drop, set, Ok, Err, sym, refl, ap, ◌∙◌, add-one, add-zero, arith, length-set}
use Rattle.std.proofs.lemmas.List.{append_assoc, append-nil, drop-drop, length-drop, take_all, take_more_set}
use Rattle.universe.specs.declared.refusal.UniverseRefusal.{UniverseRefusal}
use Rattle.universe.specs.declared.tables.State.{State}
use Rattle.universe.specs.Reading.{Read, and_then, many, state_size, total}

-- what a loop reads: so many items, from a place in the bytes on, as a part of a reading
pub record Row (X Z : Type 0) : Type 0 where
  pub one : ℕ → List ℕ → Read X
  pub size : X → ℕ
  pub count : ℕ
  pub bytes : List ℕ
  pub start : ℕ
  pub finish : List X → Read Z
  pub whole : Read Z

-- the first q of the items are read, and the reading is what they and the bytes behind them give
pub record SoFar {X Z : Type 0} (r : Row X Z) (q : ℕ) (xs : List X) (rest : List ℕ) : Type 0 where
  pub value : r.whole ≡ and_then (many r.one r.size q (r.count - q) rest) (λ ys. r.finish (take q xs ++ ys))
  pub len : length xs ≡ r.count
  pub behind : rest ≡ drop (r.start + total r.size (take q xs)) r.bytes
  pub long : r.start + total r.size (take q xs) ≤ length r.bytes

pub total_push : {X : Type 0} (size : X → ℕ) (xs : List X) (x : X) → total size (xs ++ (x ∷ [])) ≡ total size xs + size x
unfolding total
total_push size [] x = omega arith
total_push size (y ∷ xs) x = let e = total_push size xs x in omega arith

pub total_states : (ss : List State) → total state_size ss ≡ 9 * length ss
unfolding total
total_states [] = refl
total_states (s ∷ ss) = let e = total_states ss in omega arith

then_then : {X Y Z : Type 0} (r : Read X) (f : X → Read Y) (g : Y → Read Z) → and_then (and_then r f) g ≡ and_then r (λ x. and_then (f x) g)
then_then (Ok x) f g = refl
then_then (Err e) f g = refl

then_same : {X Y : Type 0} (r : Read X) (f g : X → Read Y) → ((x : X) → f x ≡ g x) → and_then r f ≡ and_then r g
then_same (Ok x) f g h = h x
then_same (Err e) f g h = refl

-- one item more
many_more : {X Z : Type 0} (one : ℕ → List ℕ → Read X) (size : X → ℕ) (q n m : ℕ) (bs : List ℕ) (x : X) (whole : Read Z) (F : List X → Read Z)
    → n ≡ suc m → whole ≡ and_then (many one size q n bs) F → one q bs ≡ Ok x
    → whole ≡ and_then (many one size (q + 1) m (drop (size x) bs)) (λ xs. F (x ∷ xs))
unfolding many
many_more one size q n m bs x whole F e w h =
    rw add-one ((rw e at w) ∙ rw h (then_then (many one size (suc q) m (drop (size x) bs)) (λ xs. Ok (x ∷ xs)) F))

-- an item that is refused
many_refused : {X Z : Type 0} (one : ℕ → List ℕ → Read X) (size : X → ℕ) (q n m : ℕ) (bs : List ℕ) (e : UniverseRefusal) (whole : Read Z) (F : List X → Read Z)
    → n ≡ suc m → whole ≡ and_then (many one size q n bs) F → one q bs ≡ Err e → whole ≡ Err e
unfolding many
many_refused one size q n m bs e whole F n-is w h = (rw n-is at w) ∙ rw h refl

-- no item is left
many_done : {X Z : Type 0} (one : ℕ → List ℕ → Read X) (size : X → ℕ) (q n : ℕ) (bs : List ℕ) (whole : Read Z) (F : List X → Read Z)
    → n ≡ 0 → whole ≡ and_then (many one size q n bs) F → whole ≡ F []
unfolding many
many_done one size q n bs whole F e w = rw e at w

module _ {X Z : Type 0} (r : Row X Z) where
  pub row_begins : (xs : List X) (rest : List ℕ) → length xs ≡ r.count → r.whole ≡ and_then (many r.one r.size 0 r.count rest) r.finish → r.start ≤ length r.bytes → rest ≡ drop r.start r.bytes
      → SoFar r 0 xs rest
  unfolding total
  row_begins xs rest e w l b = record {
    value = let e : r.count ≡ r.count - 0 = omega arith in w ∙ ap (λ n. and_then (many r.one r.size 0 n rest) r.finish) e;
    len = e;
    behind = b ∙ ap (λ i. drop i r.bytes) (sym (add-zero r.start));
    long = omega arith;
  }

  module _ (q : ℕ) (xs : List X) (rest : List ℕ) (lt : q < r.count) (so : SoFar r q xs rest) where
    left : r.count - q ≡ suc (r.count - (q + 1))
    left = omega arith

    pub row_stops : (e : UniverseRefusal) → r.one q rest ≡ Err e → r.whole ≡ Err e
    row_stops e h = many_refused r.one r.size q (r.count - q) (r.count - (q + 1)) rest e _ _ left so.value h

    pub row_more : (x : X) (behind : List ℕ) → r.one q rest ≡ Ok x → r.size x ≤ length rest → behind ≡ drop (r.size x) rest → SoFar r (q + 1) (set xs q x) behind
    row_more x behind h l b =
        let v = many_more r.one r.size q (r.count - q) (r.count - (q + 1)) rest x _ _ left so.value h in
        let front : take (q + 1) (set xs q x) ≡ take q xs ++ (x ∷ []) = take_more_set xs q x (omega (arith, so.len)) in
        let size : r.start + total r.size (take q xs) + r.size x ≡ r.start + total r.size (take q xs ++ (x ∷ [])) = omega (arith, total_push r.size (take q xs) x) in
        record {
          value = rw (front, b) (v ∙ then_same _ _ _ (λ ys. ap r.finish (sym (append_assoc (take q xs) (x ∷ []) ys))));
          len = length-set xs q x ∙ so.len;
          behind = rw (front, ← size) (b ∙ (ap (drop (r.size x)) so.behind ∙ drop-drop (r.size x) (r.start + total r.size (take q xs)) r.bytes));
          long = rw (front, ← size) (let k = (rw (so.behind, length-drop (r.start + total r.size (take q xs)) r.bytes) at l) in omega (arith, so.long));
        }

  -- no item is left
  pub row_done : (q : ℕ) (xs : List X) (rest : List ℕ) → r.count ≤ q → SoFar r q xs rest → (r.whole ≡ r.finish xs) × (take q xs ≡ xs)
  row_done q xs rest g so =
      let z : r.count - q ≡ 0 = omega arith in
      let e : take q xs ≡ xs = take_all q xs (omega (arith, so.len)) in
      (many_done r.one r.size q (r.count - q) rest _ _ z so.value ∙ ap r.finish (append-nil (take q xs) ∙ e), e)
