-- Orders and numbers: the laws of the line code.
use Rattle.std.proofs.Common.{◌≡◌, ℕ, ◌<◌, Bool, true, false, cond, ◌&&◌, eqb, ◌⊎◌, List, [], ◌∷◌, Ok, Err, Result, sym, refl, ap, ◌∙◌, inl, inr, arith}
use Rattle.std.proofs.lemmas.Bool.{and_parts, eqb-true}
use Rattle.std.proofs.lemmas.Bool.Decides.{nat_tests}
use Rattle.model.specs.declared.order.Order.{Order}
use Rattle.model.specs.declared.order.Order.TheVariants.{Create, Bind, Change, Unbind, Delete}
use Rattle.lines.specs.declared.fields.Fields.{Fields}
use Rattle.lines.specs.declared.refusal.LineRefusal.{LineRefusal}
use Rattle.lines.specs.declared.refusal.LineRefusal.TheVariants.{NotALine}
use Rattle.lines.specs.Line.{encoded, decoded, fits, fields_of_line, fields_of_order, line_of_fields, order_of_fields, unused, LinesBounded, RoundTrip}
use Rattle.lines.proofs.Packing.{same, small, fitting, cut, whole, parts, bounded}

-- the fields of an order tell it
told : (o : Order) → order_of_fields (fields_of_order o) ≡ Ok o
told (Create z t) = refl
told (Bind j) = refl
told (Change z q) = refl
told (Unbind j) = refl
told (Delete z) = refl

-- each of the values is zero
abbrev Zeros : List ℕ → Type 0
Zeros [] = Unit {0}
Zeros (x ∷ xs) = (x ≡ 0) × Zeros xs

zeros : (xs : List ℕ) → unused xs ≡ true → Zeros xs
zeros [] h = tt
zeros (x ∷ xs) h = (grind (arith, nat_tests), zeros xs (grind (arith, nat_tests)))

-- a choice is taken, or passed over
taken : (b : Bool) (o' : Order) (r : Result Order LineRefusal) (o : Order)
    → cond b (Ok o') r ≡ Ok o → ((b ≡ true) × (o' ≡ o)) ⊎ (r ≡ Ok o)
taken true o' r o h = inl (refl, cc)
taken false o' r o h = inr h

-- one arm: its operation is told, its unused values are zero and the order is its own; or the arms below tell
arm : (n k : ℕ) (xs : List ℕ) (o' : Order) (r : Result Order LineRefusal) (o : Order)
    → cond (eqb n k && unused xs) (Ok o') r ≡ Ok o → ((k ≡ n) × Zeros xs × (o' ≡ o)) ⊎ (r ≡ Ok o)
arm n k xs o' r o h =
    elim (taken (eqb n k && unused xs) o' r o h) [
      | inl w ↦ let v = and_parts (eqb n k) (unused xs) w.0 in inl (sym (eqb-true n k v.0), zeros xs v.1, w.1)
      | inr w ↦ inr w
    ]

-- fields that tell an order are the order's own
own : (f : Fields) (o : Order) → order_of_fields f ≡ Ok o → fields_of_order o ≡ f
own f o h =
    elim (arm f.operation 1 (f.second ∷ f.port ∷ f.state ∷ f.spare ∷ []) _ _ o h) [
      | inl k ↦ let z = k.1 in
          rw (sym k.2) (same _ f k.0 refl (sym z.0) (sym z.1.0) refl (sym z.1.1.0) (sym z.1.1.1.0))
      | inr h ↦ elim (arm f.operation 2 (f.kind ∷ f.state ∷ f.spare ∷ []) _ _ o h) [
        | inl k ↦ let z = k.1 in
            rw (sym k.2) (same _ f k.0 refl refl refl (sym z.0) (sym z.1.0) (sym z.1.1.0))
        | inr h ↦ elim (arm f.operation 3 (f.second ∷ f.port ∷ f.kind ∷ f.spare ∷ []) _ _ o h) [
          | inl k ↦ let z = k.1 in
              rw (sym k.2) (same _ f k.0 refl (sym z.0) (sym z.1.0) (sym z.1.1.0) refl (sym z.1.1.1.0))
          | inr h ↦ elim (arm f.operation 4 (f.kind ∷ f.state ∷ f.spare ∷ []) _ _ o h) [
            | inl k ↦ let z = k.1 in
                rw (sym k.2) (same _ f k.0 refl refl refl (sym z.0) (sym z.1.0) (sym z.1.1.0))
            | inr h ↦ elim (arm f.operation 5 (f.second ∷ f.port ∷ f.kind ∷ f.state ∷ f.spare ∷ []) _ _ o h) [
              | inl k ↦ let z = k.1 in
                  rw (sym k.2) (same _ f k.0 refl (sym z.0) (sym z.1.0) (sym z.1.1.0) (sym z.1.1.1.0) (sym z.1.1.1.1.0))
              | inr h ↦ cc
            ]
          ]
        ]
      ]
    ]

-- what a test lets through was there, and the test held
passed : (b : Bool) (y x : ℕ) (r : Result ℕ LineRefusal) → r ≡ cond b (Ok y) (Err NotALine) → r ≡ Ok x → (b ≡ true) × (y ≡ x)
passed true y x r e h = (refl, cc)
passed false y x r e h = cc

-- an order that has a line fits, and the line is the number of its fields
lined : (o : Order) (x : ℕ) → encoded o ≡ Ok x → (fits (fields_of_order o) ≡ true) × (line_of_fields (fields_of_order o) ≡ x)
lined o x h = passed (fits (fields_of_order o)) (line_of_fields (fields_of_order o)) x _ refl h

pub lines_bounded : LinesBounded
lines_bounded o x h = let k = lined o x h in rw (sym k.1) (bounded (fields_of_order o) (small (fields_of_order o) k.0))

-- an order comes back from its line
forth : (o : Order) (x : ℕ) → encoded o ≡ Ok x → decoded x ≡ Ok o
forth o x h =
    let k = lined o x h in
    let e : fields_of_line x ≡ fields_of_order o = rw (sym k.1) (parts (fields_of_order o) (small (fields_of_order o) k.0)) in
    ap order_of_fields e ∙ told o

-- the operation number of an order fits
operation_small : (o : Order) → (fields_of_order o).operation < 8
operation_small (Create z t) = omega arith
operation_small (Bind j) = omega arith
operation_small (Change z q) = omega arith
operation_small (Unbind j) = omega arith
operation_small (Delete z) = omega arith

-- a line comes back from its order
back : (o : Order) (x : ℕ) → decoded x ≡ Ok o → encoded o ≡ Ok x
back o x h =
    let e : fields_of_order o ≡ fields_of_line x = own (fields_of_line x) o h in
    let s = cut x (rw (sym (ap (λ f. f.operation) e)) (operation_small o)) in
    rw (e, fitting (fields_of_line x) s) (ap Ok (whole x))

pub round_trip : RoundTrip
round_trip o x = (forth o x, back o x)
