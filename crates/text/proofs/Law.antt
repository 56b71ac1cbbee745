-- The law of the written form.
use Rattle.std.proofs.Common.{◌≡◌, ℕ, ◌^◌, ◌<◌, cond, eqb, List, [], ◌∷◌, ◌++◌, drop, Some, None, decimal, Option, sym, refl, ap, ◌∙◌, subst, inl, inr, arith}
use Rattle.std.specs.Option.{option_map}
use Rattle.std.proofs.lemmas.Fmt.{decimal_is_IsNumeral}
use Rattle.std.proofs.lemmas.Bool.Decides.{nat_tests}
use Rattle.std.proofs.lemmas.Bool.{eqb-true, cond-true, cond-false, cases_Bool}
use Rattle.model.specs.declared.order.Order.{Order}
use Rattle.model.specs.declared.order.Order.TheVariants.{Create, Bind, Change, Unbind, Delete}
use Rattle.model.specs.Written.{written}
use Rattle.text.specs.Written.{number_of, two, binding_of, lettered, letter_of_line, ordered, order_of}
use Rattle.text.specs.Law.{letter, numbers, Spells, SpellsAll, Writes, Narrow, WrittenLaw}
use Rattle.text.proofs.Reading.{never, number_reads, number_read, two_reads, two_read, binding_reads, binding_read}

-- the letter l and the bytes ds write the order
abbrev Told : ℕ → List ℕ → Order → Type 0
Told l ds o = (letter o ≡ l ∷ []) × SpellsAll ds (numbers o) × Narrow o

-- an order is told if what it is made of is read from the bytes
told : {N : Type 0} (l : ℕ) (ds : List ℕ) (o : Order) (make : N → Order) (n : Option N) → ((a : N) → letter (make a) ≡ l ∷ []) →
    ((a : N) → n ≡ Some a → SpellsAll ds (numbers (make a)) × Narrow (make a)) → option_map make n ≡ Some o → Told l ds o
told l ds o make None g f e = never (option_map make None) o refl e
told l ds o make (Some a) g f e = let same : make a ≡ o = cc in let s = f a refl in subst (Told l ds) same (g a, s.0, s.1)

-- one letter's choice: its reading, or that of the other letters
by_letter : (l k : ℕ) (ds : List ℕ) (o : Order) (x y : Option Order) → (x ≡ Some o → Told k ds o) → (y ≡ Some o → Told l ds o) → cond (eqb l k) x y ≡ Some o → Told l ds o
by_letter l k ds o x y this other e =
    elim (cases_Bool (eqb l k)) [
      | inl it ↦ subst (λ m. Told m ds o) (sym (eqb-true l k it)) (this (sym (cond-true (eqb l k) x y it) ∙ e))
      | inr not ↦ other (sym (cond-false (eqb l k) x y not) ∙ e)
    ]

lettered_told : (l : ℕ) (ds : List ℕ) (o : Order) → lettered l ds ≡ Some o → Told l ds o
lettered_told l ds o =
    by_letter l 99 ds o _ _ (told 99 ds o (λ (n : ℕ × ℕ). Create n.0 n.1) (two ds) (λ n. refl) (two_reads ds)) (
    by_letter l 98 ds o _ _ (told 98 ds o Bind (binding_of ds) (λ j. refl) (binding_reads ds)) (
    by_letter l 115 ds o _ _ (told 115 ds o (λ (n : ℕ × ℕ). Change n.0 n.1) (two ds) (λ n. refl) (two_reads ds)) (
    by_letter l 117 ds o _ _ (told 117 ds o Unbind (binding_of ds) (λ j. refl) (binding_reads ds)) (
    by_letter l 100 ds o _ _ (told 100 ds o Delete (number_of ds) (λ a. refl) (λ a p. let r = number_reads ds a p in (r.0, (r.1, tt)))) (
    λ e. never None o refl e)))))

-- a text has a letter if a blank is its second byte
letter_reads : (bs : List ℕ) (l : ℕ) → letter_of_line bs ≡ Some l → bs ≡ l ∷ 32 ∷ drop 2 bs
letter_reads [] l e = grind (arith, nat_tests)
letter_reads (a ∷ []) l e = grind (arith, nat_tests)
letter_reads (a ∷ b ∷ bs) l e = let p : (a ≡ l) × (b ≡ 32) = grind (arith, nat_tests) in rw (p.0, p.1)

letter_read : (l : ℕ) (ds : List ℕ) → letter_of_line (l ∷ 32 ∷ ds) ≡ Some l
letter_read l ds = grind (arith, nat_tests)

ordered_told : (bs : List ℕ) (o : Order) (n : Option ℕ) → letter_of_line bs ≡ n → ordered n (drop 2 bs) ≡ Some o → Writes bs o × Narrow o
ordered_told bs o None p e = never (ordered None (drop 2 bs)) o refl e
ordered_told bs o (Some l) p e =
    let t = lettered_told l (drop 2 bs) o e in
    ((drop 2 bs, letter_reads bs l p ∙ ap (λ x. x ++ (32 ∷ drop 2 bs)) (sym t.0), t.1), t.2)

pub reads : (bs : List ℕ) (o : Order) → order_of bs ≡ Some o → Writes bs o × Narrow o
reads bs o e = ordered_told bs o (letter_of_line bs) refl e

-- a text that begins with a letter and a blank is read by its letter
order_read : (l : ℕ) (ds bs : List ℕ) → bs ≡ l ∷ 32 ∷ ds → order_of bs ≡ lettered l ds
order_read l ds bs e = ap order_of e ∙ ap (λ n. ordered n ds) (letter_read l ds)

pub read : (bs : List ℕ) (o : Order) → Writes bs o → Narrow o → order_of bs ≡ Some o
read bs (Create z t) w h = order_read 99 w.0 bs w.1 ∙ ap (option_map (λ (n : ℕ × ℕ). Create n.0 n.1)) (two_read w.0 z t w.2 h)
read bs (Bind j) w h = order_read 98 w.0 bs w.1 ∙ ap (option_map Bind) (binding_read w.0 j w.2 h)
read bs (Change z q) w h = order_read 115 w.0 bs w.1 ∙ ap (option_map (λ (n : ℕ × ℕ). Change n.0 n.1)) (two_read w.0 z q w.2 h)
read bs (Unbind j) w h = order_read 117 w.0 bs w.1 ∙ ap (option_map Unbind) (binding_read w.0 j w.2 h)
read bs (Delete z) w h = order_read 100 w.0 bs w.1 ∙ ap (option_map Delete) (number_read w.0 z w.2 h.0)

-- a written number is a numeral of it
spells : (n : ℕ) → n < 2 ^ 32 → Spells (decimal n) n
spells n h = let p = decimal_is_IsNumeral n (omega arith) in record { numeral = p.0; worth = p.1 }

pub writes : (o : Order) → Narrow o → Writes (written o) o
writes (Create z t) h = (_, refl, (_, _, refl, spells z h.0, spells t h.1.0))
writes (Bind j) h = (_, refl, (_, _, refl, spells j.port h.0, (_, _, refl, spells j.provider h.1.0, spells j.requirer h.1.1.0)))
writes (Change z q) h = (_, refl, (_, _, refl, spells z h.0, spells q h.1.0))
writes (Unbind j) h = (_, refl, (_, _, refl, spells j.port h.0, (_, _, refl, spells j.provider h.1.0, spells j.requirer h.1.1.0)))
writes (Delete z) h = (_, refl, spells z h.0)

pub written_law : WrittenLaw
written_law = record { back = λ o h. read (written o) o (writes o h) h; reads = reads; read = read }
