-- The line code: one order in one number of 32 bits. The fields of a line, from the most significant bit:
-- operation 3 bits, first instance 8, second instance 8, port 5, type 4, state 3, one spare bit.
use Rattle.std.specs.Prelude.{◌≡◌, ℕ, ◌+◌, ◌*◌, ◌/◌, ◌%◌, ◌^◌, ◌<◌, Bool, cond, ◌&&◌, List, [], ◌∷◌, Ok, Err, Result, ◌==◌, nat_lt}
use Rattle.std.specs.List.{list_all}
use Rattle.model.specs.declared.binding.Binding.{Binding}
use Rattle.model.specs.declared.order.Order.{Order}
use Rattle.model.specs.declared.order.Order.TheVariants.{Create, Bind, Change, Unbind, Delete}
use Rattle.lines.specs.declared.fields.Fields.{Fields}
use Rattle.lines.specs.declared.refusal.LineRefusal.{LineRefusal}
use Rattle.lines.specs.declared.refusal.LineRefusal.TheVariants.{NotALine}

-- the number of a refusal
abbrev pub line_number : LineRefusal → ℕ
line_number NotALine = 43

-- the number that has the fields
abbrev pub line_of_fields : Fields → ℕ
line_of_fields f =
    f.operation * 2 ^ 29 + f.first * 2 ^ 21 + f.second * 2 ^ 13 + f.port * 2 ^ 8 + f.kind * 2 ^ 4 + f.state * 2 ^ 1 + f.spare

-- the bits of a number from a place on, as many as the width
abbrev pub bits : ℕ → ℕ → ℕ → ℕ
bits x place width = x / 2 ^ place % 2 ^ width

-- the fields of a number
abbrev pub fields_of_line : ℕ → Fields
fields_of_line x = record {
  operation = x / 2 ^ 29;
  first = bits x 21 8;
  second = bits x 13 8;
  port = bits x 8 5;
  kind = bits x 4 4;
  state = bits x 1 3;
  spare = bits x 0 1;
}

-- each field fits its bits
abbrev pub fits : Fields → Bool
fits f =
    nat_lt f.operation (2 ^ 3)
    && nat_lt f.first (2 ^ 8)
    && nat_lt f.second (2 ^ 8)
    && nat_lt f.port (2 ^ 5)
    && nat_lt f.kind (2 ^ 4)
    && nat_lt f.state (2 ^ 3)
    && nat_lt f.spare (2 ^ 1)

-- these fields, and the spare bit zero
abbrev pub fields : ℕ → ℕ → ℕ → ℕ → ℕ → ℕ → Fields
fields operation first second port kind state =
    record { operation = operation; first = first; second = second; port = port; kind = kind; state = state; spare = 0 }

-- the fields that tell an order: operation, first instance, second instance, port, type and state
abbrev pub fields_of_order : Order → Fields
fields_of_order (Create z t) = fields 1 z 0 0 t 0
fields_of_order (Bind b) = fields 2 b.provider b.requirer b.port 0 0
fields_of_order (Change z q) = fields 3 z 0 0 0 q
fields_of_order (Unbind b) = fields 4 b.provider b.requirer b.port 0 0
fields_of_order (Delete z) = fields 5 z 0 0 0 0

-- all of the values are zero
abbrev pub unused : List ℕ → Bool
unused xs = list_all (λ x. x == 0) xs

-- the binding that fields tell: the first instance is the provider and the second the requirer
abbrev pub binding_of_fields : Fields → Binding
binding_of_fields f = record { port = f.port; provider = f.first; requirer = f.second }

-- the order that the fields tell: the operation is known, and what the order has no use for is zero
abbrev pub order_of_fields : Fields → Result Order LineRefusal
order_of_fields f =
    cond (f.operation == 1 && unused (f.second ∷ f.port ∷ f.state ∷ f.spare ∷ [])) (Ok (Create f.first f.kind))
    (cond (f.operation == 2 && unused (f.kind ∷ f.state ∷ f.spare ∷ [])) (Ok (Bind (binding_of_fields f)))
    (cond (f.operation == 3 && unused (f.second ∷ f.port ∷ f.kind ∷ f.spare ∷ [])) (Ok (Change f.first f.state))
    (cond (f.operation == 4 && unused (f.kind ∷ f.state ∷ f.spare ∷ [])) (Ok (Unbind (binding_of_fields f)))
    (cond (f.operation == 5 && unused (f.second ∷ f.port ∷ f.kind ∷ f.state ∷ f.spare ∷ [])) (Ok (Delete f.first))
    (Err NotALine)))))

-- the number that has the fields, refused where one is too large for its bits
abbrev pub packed_fields : Fields → Result ℕ LineRefusal
packed_fields f = cond (fits f) (Ok (line_of_fields f)) (Err NotALine)

-- the line of an order, refused where the order is too large for its fields
abbrev pub encoded : Order → Result ℕ LineRefusal
encoded o = packed_fields (fields_of_order o)

-- the order of a line, refused where the number is no line
abbrev pub decoded : ℕ → Result Order LineRefusal
decoded x = order_of_fields (fields_of_line x)

-- a line is a number of 32 bits
abbrev pub LinesBounded : Type 0
LinesBounded = (o : Order) (x : ℕ) → encoded o ≡ Ok x → x < 2 ^ 32

-- an order that has a line comes back from it, and a number that tells an order is the line of that order:
-- no other number is accepted
abbrev pub RoundTrip : Type 0
RoundTrip = (o : Order) (x : ℕ) → (encoded o ≡ Ok x → decoded x ≡ Ok o) × (decoded x ≡ Ok o → encoded o ≡ Ok x)
