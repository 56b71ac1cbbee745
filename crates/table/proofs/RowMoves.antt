-- How ports and rows put in, taken out and left out move what the rows hold. Assumes nothing.
use Rattle.std.proofs.Common.{◌≡◌, ℕ, ◌+◌, ◌-◌, ◌*◌, ◌<◌, ◌≤◌, Bool, true, false, not, ◌&&◌, ◌||◌, eqb, ◌≢◌, ◌⊎◌, List, length, set, Decides, refl, sym, ap, ◌∙◌, inl, inr, arith}
use mathlib.Core.Bool.{false≢true}
use Rattle.std.proofs.lemmas.List.{get_or-set_same, get_or-set_other}
use Rattle.std.proofs.lemmas.Bool.{cases_eq, cases_lt, cases_order}
use Rattle.std.proofs.lemmas.Bool.Decides.{same_from_decides, Decides-and, Decides-eqb, Decides-like, Decides-not, Decides-or}
use Rattle.model.specs.Orders.{same}
use Rattle.universe.specs.Sets.{has}
use Rattle.table.specs.declared.row.Row.{Row}
use Rattle.table.specs.Rows.{blank, row, rank, joins, held, Ordered, Gives, Place, Opened, Closed, Kept}
use Rattle.table.proofs.RowSearch.{Found, held_tells, joins_tells, joins_rank, one_place}

-- a row is put in at the place of its rank
module _ (xs ys : List Row) (n : ℕ) (o : Ordered xs n) (b : Row) (r : ℕ) (at : Place xs n (rank b) r) (opened : Opened xs ys r n) (room : n < length ys) where
  abbrev into : List Row
  into = set ys r b

  new : row into r ≡ b
  new = get_or-set_same ys r b blank (omega (arith, at.most))

  low : (k : ℕ) → k < r → row into k ≡ row xs k
  low k l = get_or-set_other ys r k b blank (omega arith) ∙ opened.below k l

  high : (k : ℕ) → r ≤ k → k < n → row into (k + 1) ≡ row xs k
  high k l m = get_or-set_other ys r (k + 1) b blank (omega arith) ∙ opened.above k l m

  down : (k : ℕ) → r < k → k < n + 1 → row into k ≡ row xs (k - 1)
  down k l m = let e : k ≡ (k - 1) + 1 = omega arith in ap (row into) e ∙ high (k - 1) (omega arith) (omega arith)

  -- each row is the new one, or one that was there
  known : (i : ℕ) → i < n + 1 → (row into i ≡ b) ⊎ ((k : ℕ) × (k < n) × (row into i ≡ row xs k))
  known i l =
      elim (cases_order i r) [
        | inl e ↦ inl (ap (row into) e ∙ new)
        | inr apart ↦ elim apart [
          | inl lt ↦ inr (i, omega (arith, at.most), low i lt)
          | inr gt ↦ inr (i - 1, omega arith, down i gt l)
        ]
      ]

  pub held_more : (p x y : ℕ) → held into (n + 1) p x y ≡ (held xs n p x y || joins b p x y)
  held_more p x y =
      same_from_decides _ _ (Decides-like _ forth back (held_tells into (n + 1) p x y))
      (Decides-or _ _ (held_tells xs n p x y) (as_is, as_is))
    where
      as_is : joins b p x y ≡ true → joins b p x y ≡ true
      as_is e = e

      forth : Found into (n + 1) p x y → Found xs n p x y ⊎ (joins b p x y ≡ true)
      forth a =
          elim (known a.0 a.1) [
            | inl e ↦ inr (ap (λ b. joins b p x y) (sym e) ∙ a.2)
            | inr k ↦ inl (k.0, k.1, ap (λ b. joins b p x y) (sym k.2) ∙ a.2)
          ]

      back : Found xs n p x y ⊎ (joins b p x y ≡ true) → Found into (n + 1) p x y
      back (inl a) =
          let i = a.0 in
          let l = a.1 in
          elim (cases_lt i r) [
            | inl lt ↦ (i, omega arith, ap (λ b. joins b p x y) (low i lt) ∙ a.2)
            | inr ge ↦ (i + 1, omega arith, ap (λ b. joins b p x y) (high i ge l) ∙ a.2)
          ]
      back (inr e) = (r, omega (arith, at.most), ap (λ b. joins b p x y) new ∙ e)

  pub ordered_more : ((i : ℕ) → i < n → rank (row xs i) ≡ rank b → ⊥) → Ordered into (n + 1)
  ordered_more out i j a l =
      elim (cases_order j r) [
        | inl e ↦ let li : i < r = omega arith in rw (e, new, low i li) (at.before i li)
        | inr apart ↦ elim apart [
          | inl lt ↦ rw (low i (omega arith), low j lt) (o i j a (omega (arith, at.most)))
          | inr gt ↦ elim (cases_order i r) [
            | inl e ↦ rw (e, new, down j gt l) (above (j - 1) (omega arith) (omega arith))
            | inr apart' ↦ elim apart' [
              | inl lt ↦ rw (low i lt, down j gt l) (o i (j - 1) (omega arith) (omega arith))
              | inr gt' ↦ rw (down i gt' (omega arith), down j gt l) (o (i - 1) (j - 1) (omega arith) (omega arith))
            ]
          ]
        ]
      ]
    where
      above : (j : ℕ) → r ≤ j → j < n → rank b < rank (row xs j)
      above j a l =
          let h = at.after j a l in
          let ne : rank b ≢ rank (row xs j) = λ e. out j l (sym e) in
          omega arith

  pub filled_more : b.ports ≢ 0 → ((i : ℕ) → i < n → (row xs i).ports ≢ 0) → (i : ℕ) → i < n + 1 → (row into i).ports ≢ 0
  filled_more some filled i l none =
      elim (known i l) [
        | inl e ↦ some (ap (λ (b : Row). b.ports) (sym e) ∙ none)
        | inr k ↦ filled k.0 k.1 (ap (λ (b : Row). b.ports) (sym k.2) ∙ none)
      ]

-- the row r is taken out
module _ (xs ys : List Row) (n : ℕ) (o : Ordered xs n) (r : ℕ) (closed : Closed xs ys r n) where
  -- each row that is left was there, and is another
  left : (i : ℕ) → i < n - 1 → (k : ℕ) × (k < n) × (k ≢ r) × (row ys i ≡ row xs k)
  left i l =
      elim (cases_lt i r) [
        | inl lt ↦ (i, omega arith, omega arith, closed.below i lt)
        | inr ge ↦ (i + 1, omega arith, omega arith, closed.above i ge (omega arith))
      ]

  -- a row without the port is no loss
  pub held_less : (p x y : ℕ) → joins (row xs r) p x y ≡ false → held ys (n - 1) p x y ≡ held xs n p x y
  held_less p x y none = same_from_decides _ _ (Decides-like _ forth back (held_tells ys (n - 1) p x y)) (held_tells xs n p x y)
    where
      forth : Found ys (n - 1) p x y → Found xs n p x y
      forth a = let k = left a.0 a.1 in (k.0, k.1, ap (λ b. joins b p x y) (sym k.3) ∙ a.2)

      back : Found xs n p x y → Found ys (n - 1) p x y
      back a =
          let i = a.0 in
          let l = a.1 in
          elim (cases_order i r) [
            | inl e ↦ absurd (false≢true (sym none ∙ ap (λ k. joins (row xs k) p x y) (sym e) ∙ a.2))
            | inr apart ↦ elim apart [
              | inl lt ↦ (i, omega arith, ap (λ b. joins b p x y) (closed.below i lt) ∙ a.2)
              | inr gt ↦
                  let e : (i - 1) + 1 ≡ i = omega arith in
                  (i - 1, omega arith, ap (λ b. joins b p x y) (closed.above (i - 1) (omega arith) (omega arith) ∙ ap (row xs) e) ∙ a.2)
            ]
          ]

  pub ordered_less : Ordered ys (n - 1)
  ordered_less i j a l =
      elim (cases_lt j r) [
        | inl lt ↦ rw (closed.below i (omega arith), closed.below j lt) (o i j a (omega arith))
        | inr ge ↦ elim (cases_lt i r) [
          | inl lt ↦ rw (closed.below i lt, closed.above j ge (omega arith)) (o i (j + 1) (omega arith) (omega arith))
          | inr ge' ↦ rw (closed.above i ge' (omega arith), closed.above j ge (omega arith)) (o (i + 1) (j + 1) (omega arith) (omega arith))
        ]
      ]

  pub filled_less : ((k : ℕ) → k < n → k ≢ r → (row xs k).ports ≢ 0) → (i : ℕ) → i < n - 1 → (row ys i).ports ≢ 0
  filled_less filled i l none = let k = left i l in filled k.0 k.1 k.2 (ap (λ (b : Row). b.ports) (sym k.3) ∙ none)

-- another row of its rank is written at r
module _ (xs : List Row) (n : ℕ) (o : Ordered xs n) (r : ℕ) (lr : r < n) (room : n ≤ length xs) (b : Row) (same_rank : rank b ≡ rank (row xs r)) where
  abbrev written : List Row
  written = set xs r b

  pub here : row written r ≡ b
  here = get_or-set_same xs r b blank (omega arith)

  there : (k : ℕ) → k ≢ r → row written k ≡ row xs k
  there k ne = get_or-set_other xs r k b blank ne

  ranks : (k : ℕ) → rank (row written k) ≡ rank (row xs k)
  ranks k = elim (cases_eq k r) [
    | inl e ↦ rw (e, here) same_rank
    | inr ne ↦ ap rank (there k ne)
  ]

  pub ordered_written : Ordered written n
  ordered_written i j a l = rw (ranks i, ranks j) (o i j a l)

  pub filled_written : ((i : ℕ) → i < n → (row xs i).ports ≢ 0) → (i : ℕ) → i < n → i ≢ r → (row written i).ports ≢ 0
  filled_written filled i l ne none = filled i l (ap (λ (b : Row). b.ports) (sym (there i ne)) ∙ none)

  -- the row now has the port too
  pub held_gained : (p x y : ℕ) (s : Bool) → joins b p x y ≡ (joins (row xs r) p x y || s) → held written n p x y ≡ (held xs n p x y || s)
  held_gained p x y s is =
      same_from_decides _ _ (Decides-like _ forth back (held_tells written n p x y)) (Decides-or _ _ (held_tells xs n p x y) (as_is, as_is))
    where
      as_is : s ≡ true → s ≡ true
      as_is e = e

      either : Decides (joins (row xs r) p x y || s) ((joins (row xs r) p x y ≡ true) ⊎ (s ≡ true))
      either = Decides-or _ _ ((λ e. e), (λ e. e)) (as_is, as_is)

      forth : Found written n p x y → Found xs n p x y ⊎ (s ≡ true)
      forth a =
          elim (cases_eq a.0 r) [
            | inl e ↦ elim (either.0 (sym is ∙ ap (λ b. joins b p x y) (sym here ∙ ap (row written) (sym e)) ∙ a.2)) [
              | inl was ↦ inl (r, lr, was)
              | inr new ↦ inr new
            ]
            | inr ne ↦ inl (a.0, a.1, ap (λ b. joins b p x y) (sym (there a.0 ne)) ∙ a.2)
          ]

      back : Found xs n p x y ⊎ (s ≡ true) → Found written n p x y
      back (inl a) =
          elim (cases_eq a.0 r) [
            | inl e ↦ (r, lr, ap (λ b. joins b p x y) here ∙ is ∙ either.1 (inl (ap (λ k. joins (row xs k) p x y) (sym e) ∙ a.2)))
            | inr ne ↦ (a.0, a.1, ap (λ b. joins b p x y) (there a.0 ne) ∙ a.2)
          ]
      back (inr new) = (r, lr, ap (λ b. joins b p x y) here ∙ is ∙ either.1 (inr new))

  -- or has it no more
  pub held_lost : (p x y : ℕ) (s : Bool) → (s ≡ true → rank (row xs r) ≡ x * 256 + y) → joins b p x y ≡ (joins (row xs r) p x y && not s) →
      held written n p x y ≡ (held xs n p x y && not s)
  held_lost p x y s of is =
      same_from_decides _ _ (Decides-like _ forth back (held_tells written n p x y)) (Decides-and _ _ (held_tells xs n p x y) (Decides-not _ (as_is, as_is)))
    where
      as_is : s ≡ true → s ≡ true
      as_is e = e

      both : Decides (joins (row xs r) p x y && not s) ((joins (row xs r) p x y ≡ true) × (s ≡ true → ⊥))
      both = Decides-and _ _ ((λ e. e), (λ e. e)) (Decides-not _ (as_is, as_is))

      forth : Found written n p x y → Found xs n p x y × (s ≡ true → ⊥)
      forth a =
          elim (cases_eq a.0 r) [
            | inl e ↦ let was = both.0 (sym is ∙ ap (λ b. joins b p x y) (sym here ∙ ap (row written) (sym e)) ∙ a.2) in ((r, lr, was.0), was.1)
            | inr ne ↦
                let j = ap (λ b. joins b p x y) (sym (there a.0 ne)) ∙ a.2 in
                ((a.0, a.1, j), λ t. ne (one_place xs n o a.0 r a.1 lr (joins_rank (row xs a.0) p x y j ∙ sym (of t))))
          ]

      back : Found xs n p x y × (s ≡ true → ⊥) → Found written n p x y
      back a =
          elim (cases_eq a.0.0 r) [
            | inl e ↦ (r, lr, ap (λ b. joins b p x y) here ∙ is ∙ both.1 (ap (λ k. joins (row xs k) p x y) (sym e) ∙ a.0.2, a.1))
            | inr ne ↦ (a.0.0, a.0.1, ap (λ b. joins b p x y) (there a.0.0 ne) ∙ a.0.2)
          ]

-- what a row gives
module _ (b : Row) (X Y : ℕ) where
  -- one port alone
  pub gives_one : (q : ℕ) → Gives b X Y (λ p. eqb q p) → (p x y : ℕ) → joins b p x y ≡ same q X Y p x y
  gives_one q g p x y = rw (g.ports p, g.provider, g.requirer) refl

  -- the ports of another row, and one more
  pub gives_more : (a : Row) (q : ℕ) → a.provider ≡ X → a.requirer ≡ Y → Gives b X Y (λ p. has 32 a.ports p || eqb q p) →
      (p x y : ℕ) → joins b p x y ≡ (joins a p x y || same q X Y p x y)
  gives_more a q ex ey g p x y = rw (g.ports p, g.provider, g.requirer, ex, ey) (spread (has 32 a.ports p) (eqb q p) (eqb X x) (eqb Y y))
    where
      spread : (h s u v : Bool) → ((h || s) && u && v) ≡ ((h && u && v) || (s && u && v))
      spread true true true true = refl
      spread true false true true = refl
      spread false s true true = refl
      spread true true false v = refl
      spread true false false v = refl
      spread false true false v = refl
      spread false false false v = refl
      spread true true true false = refl
      spread true false true false = refl
      spread false true true false = refl
      spread false false true false = refl

  -- or but one
  pub gives_less : (a : Row) (q : ℕ) → a.provider ≡ X → a.requirer ≡ Y → Gives b X Y (λ p. has 32 a.ports p && not (eqb q p)) →
      (p x y : ℕ) → joins b p x y ≡ (joins a p x y && not (same q X Y p x y))
  gives_less a q ex ey g p x y = rw (g.ports p, g.provider, g.requirer, ex, ey) (spread (has 32 a.ports p) (eqb q p) (eqb X x) (eqb Y y))
    where
      spread : (h s u v : Bool) → ((h && not s) && u && v) ≡ ((h && u && v) && not (s && u && v))
      spread false s u v = refl
      spread true true true true = refl
      spread true false true true = refl
      spread true true false v = refl
      spread true false false v = refl
      spread true true true false = refl
      spread true false true false = refl

-- the rows of the requirer z are left out
pub held_kept : (xs ys : List Row) (n m z d : ℕ) → Kept xs ys n m z d → (p x y : ℕ) → held ys m p x y ≡ (held xs n p x y && not (eqb y z))
held_kept xs ys n m z d kept p x y =
    same_from_decides _ _ (Decides-like _ forth back (held_tells ys m p x y))
    (Decides-and _ _ (held_tells xs n p x y) (Decides-not _ (Decides-eqb y z)))
  where
    forth : Found ys m p x y → Found xs n p x y × (y ≡ z → ⊥)
    forth a =
        let f = kept.from a.0 a.1 in
        let j = (joins_tells (row ys a.0) p x y).0 a.2 in
        ((f.0.0, f.0.1, ap (λ b. joins b p x y) f.0.2 ∙ a.2), λ e. f.1 (j.requirer ∙ e))

    back : Found xs n p x y × (y ≡ z → ⊥) → Found ys m p x y
    back a =
        let j = (joins_tells (row xs a.0.0) p x y).0 a.0.2 in
        let g = kept.all a.0.0 a.0.1 (λ e. a.1 (sym j.requirer ∙ e)) in
        (g.0, g.1, ap (λ b. joins b p x y) g.2 ∙ a.0.2)
