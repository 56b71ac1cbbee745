-- What is read of the written form of orders.
use Rattle.std.specs.Prelude.{ℕ, ◌+◌, ◌-◌, ◌*◌, ◌^◌, Bool, cond, ◌&&◌, List, length, drop, Some, None, Option, ◌==◌, nat_le, nat_lt, slice_index}
use Rattle.std.specs.List.{after_first, before_first, fold}
use Rattle.std.specs.Option.{option_map}
use Rattle.model.specs.declared.binding.Binding.{Binding}
use Rattle.model.specs.declared.order.Order.{Order}
use Rattle.model.specs.declared.order.Order.TheVariants.{Create, Bind, Change, Unbind, Delete}

-- a byte from 0 to 9
abbrev pub digit_test : ℕ → Bool
digit_test d = nat_le 48 d && nat_le d 57

-- n with one more digit, if the byte is a digit and the number stays below 2 ^ 32
abbrev pub grown : ℕ → ℕ → Option ℕ
grown n d = let m = n * 10 + (d - 48) in cond (digit_test d && nat_lt m (2 ^ 32)) (Some m) None

-- the number so far with one more digit, if there is one
abbrev pub grown_from : Option ℕ → ℕ → Option ℕ
grown_from None d = None
grown_from (Some n) d = grown n d

-- the number so far with all further digits
abbrev pub number_from : Option ℕ → List ℕ → Option ℕ
number_from o ds = fold grown_from o ds

-- the number that one digit or more write
abbrev pub number_of : List ℕ → Option ℕ
number_of ds = cond (nat_lt 0 (length ds)) (number_from (Some 0) ds) None

-- what stands before the first blank, or all where there is none
abbrev pub front : List ℕ → List ℕ
front bs = before_first (λ b. b == 32) bs

-- what stands after the first blank, or nothing where there is none
abbrev pub rest : List ℕ → List ℕ
rest bs = after_first (λ b. b == 32) bs

-- two numbers, if both are there
abbrev pub pair : Option ℕ → Option ℕ → Option (ℕ × ℕ)
pair None o = None
pair (Some a) None = None
pair (Some a) (Some b) = Some (a, b)

-- the number before the first blank, and that after it
abbrev pub two : List ℕ → Option (ℕ × ℕ)
two bs = pair (number_of (front bs)) (number_of (rest bs))

-- the binding of a port and its two ends, if all are there
abbrev pub joined : Option ℕ → Option (ℕ × ℕ) → Option Binding
joined None o = None
joined (Some p) None = None
joined (Some p) (Some e) = Some (record { port = p; provider = e.0; requirer = e.1 })

-- the binding of the number before the first blank, and the two after it
abbrev pub binding_of : List ℕ → Option Binding
binding_of bs = joined (number_of (front bs)) (two (rest bs))

-- the order of a letter and its numbers
abbrev pub lettered : ℕ → List ℕ → Option Order
lettered l ds =
    cond (l == 99) (option_map (λ n. Create n.0 n.1) (two ds)) (
    cond (l == 98) (option_map Bind (binding_of ds)) (
    cond (l == 115) (option_map (λ n. Change n.0 n.1) (two ds)) (
    cond (l == 117) (option_map Unbind (binding_of ds)) (
    cond (l == 100) (option_map Delete (number_of ds)) None))))

-- the first byte, if a blank follows it
abbrev pub letter_of_line : List ℕ → Option ℕ
letter_of_line bs = cond (nat_lt 1 (length bs) && slice_index bs 1 == 32) (Some (slice_index bs 0)) None

-- the order of a letter, if it is there, and its numbers
abbrev pub ordered : Option ℕ → List ℕ → Option Order
ordered None ds = None
ordered (Some l) ds = lettered l ds

-- the order that a text is read as: a letter, a blank, and the numbers
abbrev pub order_of : List ℕ → Option Order
order_of bs = ordered (letter_of_line bs) (drop 2 bs)
