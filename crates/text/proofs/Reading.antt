-- What numbers, and numbers with blanks between them, are read as.
use Rattle.std.proofs.Common.{◌≡◌, ◌⊎◌, ℕ, ◌+◌, ◌-◌, ◌*◌, ◌^◌, ◌<◌, ◌≤◌, true, false, eqb, List, [], ◌∷◌, ◌++◌, length, get_or, drop, Some, None, Option, sym, refl, ap, ◌∙◌, inl, inr, arith}
use Rattle.std.specs.Str.Parse.{AllDigits, digits_value_after}
use Rattle.std.specs.Char.{digit_value}
use Rattle.std.specs.List.{position_or_len}
use Rattle.std.proofs.lemmas.List.Folds.{fold_stays}
use Rattle.std.proofs.lemmas.List.Sums.{split_at_first, passes_at_first}
use Rattle.std.proofs.lemmas.List.{take_at, drop_at, drop-drop, length-drop, length-append}
use Rattle.std.proofs.lemmas.Str.Parse.{digit_from_value}
use Rattle.std.proofs.lemmas.Str.{digit_value_digit}
use Rattle.std.proofs.lemmas.Bool.Decides.{nat_tests}
use Rattle.std.proofs.lemmas.Bool.{eqb-true, ne_eqb}
use Rattle.model.specs.declared.binding.Binding.{Binding}
use Rattle.text.specs.Written.{digit_test, grown, grown_from, number_from, number_of, front, rest, two, binding_of, pair, joined}
use Rattle.text.specs.Law.{Spells, SpellsAll, AllNarrow}

-- nothing is both there and not
pub never : {X A : Type 0} (o : Option X) (x : X) → o ≡ None → o ≡ Some x → A
never o x p q = cc

-- the digit's value, and that of a byte with such a value
digit_is : (d : ℕ) → digit_test d ≡ true → (digit_value d < 10) × (digit_value d ≡ d - 48)
digit_is d e =
    let both : (48 ≤ d) × (d ≤ 57) = grind (arith, nat_tests) in
    let v = digit_value_digit d both in
    (omega arith, omega arith)

is_digit : (d : ℕ) → digit_value d < 10 → (digit_test d ≡ true) × (digit_value d ≡ d - 48)
is_digit d h =
    let p = digit_from_value d h in
    let v = digit_value_digit d p in
    (grind (arith, nat_tests), omega arith)

-- a number grows as it is read
after_le : (ds : List ℕ) (k : ℕ) → k ≤ digits_value_after 10 k ds
after_le [] k = omega arith
after_le (d ∷ ds) k = let h = after_le ds (k * 10 + digit_value d) in omega arith

-- a digit is read if the number stays small, and nothing else is
grows : (k d : ℕ) → digit_test d ≡ true → k * 10 + (d - 48) < 2 ^ 32 → grown k d ≡ Some (k * 10 + (d - 48))
grows k d t h = grind (arith, nat_tests)

step : (k d : ℕ) → (grown k d ≡ None) ⊎ ((digit_test d ≡ true) × (k * 10 + (d - 48) < 2 ^ 32))
step k d = grind (arith, nat_tests)

-- digits that are read have the value that is read
from_reads : (ds : List ℕ) (k n : ℕ) → k < 2 ^ 32 → number_from (Some k) ds ≡ Some n → AllDigits 10 ds × (digits_value_after 10 k ds ≡ n) × (n < 2 ^ 32)
from_reads [] k n h e = let same : k ≡ n = cc in (tt, same, omega arith)
from_reads (d ∷ ds) k n h e =
    elim (step k d) [
      | inl none ↦ never (number_from (grown k d) ds) n (ap (λ o. number_from o ds) none ∙ fold_stays grown_from None (λ x. refl) ds) e
      | inr it ↦
          let v = digit_is d it.0 in
          let again = from_reads ds (k * 10 + (d - 48)) n it.1 (ap (λ o. number_from o ds) (sym (grows k d it.0 it.1)) ∙ e) in
          ((v.0, again.0), ap (λ x. digits_value_after 10 (k * 10 + x) ds) v.1 ∙ again.1, again.2)
    ]

-- digits are read as their value, if that is small
from_read : (ds : List ℕ) (k n : ℕ) → AllDigits 10 ds → digits_value_after 10 k ds ≡ n → n < 2 ^ 32 → number_from (Some k) ds ≡ Some n
from_read [] k n p e h = ap Some e
from_read (d ∷ ds) k n p e h =
    let v = is_digit d p.0 in
    let f : digits_value_after 10 (k * 10 + (d - 48)) ds ≡ n = ap (λ x. digits_value_after 10 (k * 10 + x) ds) (sym v.1) ∙ e in
    let small : k * 10 + (d - 48) < 2 ^ 32 = omega (arith, after_le ds (k * 10 + (d - 48))) in
    ap (λ o. number_from o ds) (grows k d v.0 small) ∙ from_read ds (k * 10 + (d - 48)) n p.1 f h

-- a list with a digit is read from 0
number_some : (ds : List ℕ) → 0 < length ds → number_of ds ≡ number_from (Some 0) ds
number_some ds h = grind (arith, nat_tests)

-- a number is read from a numeral of it, and from nothing else
pub number_reads : (ds : List ℕ) (n : ℕ) → number_of ds ≡ Some n → Spells ds n × (n < 2 ^ 32)
number_reads [] n e = never (number_of []) n refl e
number_reads (d ∷ ds) n e =
    let some : 0 < length (d ∷ ds) = omega arith in
    let p = from_reads (d ∷ ds) 0 n (omega arith) (sym (number_some (d ∷ ds) some) ∙ e) in
    (record { numeral = (some, p.0); worth = p.1 }, p.2)

pub number_read : (ds : List ℕ) (n : ℕ) → Spells ds n → n < 2 ^ 32 → number_of ds ≡ Some n
number_read ds n s h = number_some ds s.numeral.0 ∙ from_read ds 0 n s.numeral.1 s.worth h

-- the place of the first blank
abbrev blank : List ℕ → ℕ
blank bs = position_or_len (λ b. eqb b 32) bs

-- the first blank stands after the digits
blank_after : (ds bs : List ℕ) → AllDigits 10 ds → blank (ds ++ (32 ∷ bs)) ≡ length ds
blank_after [] bs p = refl
blank_after (d ∷ ds) bs p =
    let lo = (digit_from_value d p.0).0 in
    let e : eqb d 32 ≡ false = ne_eqb d 32 (λ e. omega arith) in
    rw (e, blank_after ds bs p.1) (omega arith)

front_after : (ds bs : List ℕ) → AllDigits 10 ds → front (ds ++ (32 ∷ bs)) ≡ ds
front_after ds bs p = take_at ds (32 ∷ bs) (blank (ds ++ (32 ∷ bs))) (sym (blank_after ds bs p))

rest_after : (ds bs : List ℕ) → AllDigits 10 ds → rest (ds ++ (32 ∷ bs)) ≡ bs
rest_after ds bs p = ap (λ k. drop (k + 1) (ds ++ (32 ∷ bs))) (blank_after ds bs p) ∙ sym (drop-drop 1 (length ds) (ds ++ (32 ∷ bs))) ∙ ap (drop 1) (drop_at ds (32 ∷ bs) (length ds) refl)

-- at a blank within, the text is cut
cut : (bs : List ℕ) → blank bs < length bs → bs ≡ front bs ++ (32 ∷ rest bs)
cut bs h =
    split_at_first (λ b. eqb b 32) bs 0 h
    ∙ ap (λ b. front bs ++ (b ∷ rest bs)) (eqb-true (get_or bs (blank bs) 0) 32 (passes_at_first (λ b. eqb b 32) bs 0 h))

-- what stands after the first blank is not empty only if there is a blank
some_after : (bs : List ℕ) → 0 < length (rest bs) → blank bs < length bs
some_after bs h = omega (arith, length-drop (blank bs + 1) bs)

-- digits before a blank are its front, and the other bytes its rest
parts : (ds es bs : List ℕ) → bs ≡ ds ++ (32 ∷ es) → AllDigits 10 ds → (front bs ≡ ds) × (rest bs ≡ es)
parts ds es bs e p = (ap front e ∙ front_after ds es p, ap rest e ∙ rest_after ds es p)

pair_some : (o p : Option ℕ) (r : ℕ × ℕ) → pair o p ≡ Some r → (o ≡ Some r.0) × (p ≡ Some r.1)
pair_some None p r e = cc
pair_some (Some a) None r e = cc
pair_some (Some a) (Some b) r e = let q : (a, b) ≡ r = cc in (ap (λ (x : ℕ × ℕ). Some x.0) q, ap (λ (x : ℕ × ℕ). Some x.1) q)

joined_some : (o : Option ℕ) (p : Option (ℕ × ℕ)) (j : Binding) → joined o p ≡ Some j → (o ≡ Some j.port) × (p ≡ Some (j.provider, j.requirer))
joined_some None p j e = cc
joined_some (Some a) None j e = cc
joined_some (Some a) (Some b) j e =
    let q : record { port = a; provider = b.0; requirer = b.1 } ≡ j = cc in
    (ap (λ (x : Binding). Some x.port) q, ap (λ (x : Binding). Some (x.provider, x.requirer)) q)

-- two numbers are read from their numerals with a blank between them, and from nothing else
pub two_reads : (bs : List ℕ) (r : ℕ × ℕ) → two bs ≡ Some r → SpellsAll bs (r.0 ∷ r.1 ∷ []) × AllNarrow (r.0 ∷ r.1 ∷ [])
two_reads bs r e =
    let p = pair_some (number_of (front bs)) (number_of (rest bs)) r e in
    let a = number_reads (front bs) r.0 p.0 in
    let b = number_reads (rest bs) r.1 p.1 in
    ((front bs, rest bs, cut bs (some_after bs b.0.numeral.0), a.0, b.0), (a.1, (b.1, tt)))

pub two_read : (bs : List ℕ) (a b : ℕ) → SpellsAll bs (a ∷ b ∷ []) → AllNarrow (a ∷ b ∷ []) → two bs ≡ Some (a, b)
two_read bs a b s h =
    let p = parts s.0 s.1 bs s.2 s.3.numeral.1 in
    let x : number_of (front bs) ≡ Some a = ap number_of p.0 ∙ number_read s.0 a s.3 h.0 in
    let y : number_of (rest bs) ≡ Some b = ap number_of p.1 ∙ number_read s.1 b s.4 h.1.0 in
    ap (λ o. pair o (number_of (rest bs))) x ∙ ap (λ o. pair (Some a) o) y

-- and so are the three of a binding
pub binding_reads : (bs : List ℕ) (j : Binding) → binding_of bs ≡ Some j → SpellsAll bs (j.port ∷ j.provider ∷ j.requirer ∷ []) × AllNarrow (j.port ∷ j.provider ∷ j.requirer ∷ [])
binding_reads bs j e =
    let p = joined_some (number_of (front bs)) (two (rest bs)) j e in
    let a = number_reads (front bs) j.port p.0 in
    let b = two_reads (rest bs) (j.provider, j.requirer) p.1 in
    let some : 0 < length (rest bs) = omega (arith, ap length b.0.2, length-append b.0.0 (32 ∷ b.0.1)) in
    ((front bs, rest bs, cut bs (some_after bs some), a.0, b.0), (a.1, b.1))

pub binding_read : (bs : List ℕ) (j : Binding) → SpellsAll bs (j.port ∷ j.provider ∷ j.requirer ∷ []) → AllNarrow (j.port ∷ j.provider ∷ j.requirer ∷ []) → binding_of bs ≡ Some j
binding_read bs j s h =
    let p = parts s.0 s.1 bs s.2 s.3.numeral.1 in
    let x : number_of (front bs) ≡ Some j.port = ap number_of p.0 ∙ number_read s.0 j.port s.3 h.0 in
    let y : two (rest bs) ≡ Some (j.provider, j.requirer) = ap two p.1 ∙ two_read s.1 j.provider j.requirer s.4 h.1 in
    ap (λ o. joined o (two (rest bs))) x ∙ ap (λ o. joined (Some j.port) o) y
