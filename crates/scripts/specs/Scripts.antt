-- Script files and their texts: what is read, printed and written.
use Rattle.std.specs.Prelude.{ℕ, suc, ◌+◌, ◌*◌, ◌/◌, ◌%◌, Bool, false, cond, ◌||◌, List, [], ◌∷◌, ◌++◌, length, map, is_err, Some, None, Ok, Err, codes, decimal, Option, Result, ◌==◌, slice_index}
use Rattle.std.specs.Option.{option_map}
use Rattle.std.specs.List.{onto_first}
use Rattle.std.specs.Simd.{first_chunks}
use Rattle.model.specs.declared.order.Order.{Order}
use Rattle.lines.specs.declared.refusal.LineRefusal.{LineRefusal}
use Rattle.lines.specs.Line.{line_number, decoded, encoded}
use Rattle.model.specs.Written.{written}
use Rattle.text.specs.Written.{order_of}
use Rattle.scripts.specs.declared.PackFault.{PackFault}

-- the end of a text line
abbrev pub newline : List ℕ
newline = 10 ∷ []

-- how many lines were packed
abbrev pub pack_text_of : ℕ → List ℕ
pack_text_of n = decimal n ++ (codes " lines" ++ newline)

-- a refusal, with its number and its place
abbrev pub refusal_text_of : ℕ → ℕ → List ℕ
refusal_text_of number place = codes "refused " ++ (decimal number ++ (codes " at " ++ (decimal place ++ newline)))

-- an order in a text line of its own
abbrev pub order_row_of : Order → List ℕ
order_row_of o = written o ++ newline

-- what is printed of the line at a place
abbrev pub line_text : ℕ → Result Order LineRefusal → List ℕ
line_text place (Ok o) = order_row_of o
line_text place (Err e) = refusal_text_of (line_number e) place

-- the order of a line
unfoldable pub order_at : ℕ → Result Order LineRefusal
order_at x = decoded x

-- what is printed of the lines from a place on, up to the first that is refused
unfoldable pub lines_text : ℕ → List ℕ → List ℕ
lines_text place [] = []
lines_text place (x ∷ xs) = line_text place (order_at x) ++ cond (is_err (order_at x)) [] (lines_text (suc place) xs)

-- one of the lines is refused
unfoldable pub lines_refused : List ℕ → Bool
lines_refused [] = false
lines_refused (x ∷ xs) = is_err (order_at x) || lines_refused xs

-- the number in four bytes, the most significant first
abbrev pub word_of : List ℕ → ℕ
word_of bs = slice_index bs 0 * 16777216 + slice_index bs 1 * 65536 + slice_index bs 2 * 256 + slice_index bs 3

-- the lines of a script file, if its length is a multiple of four
abbrev pub script_lines_of : List ℕ → Option (List ℕ)
script_lines_of bs = cond (length bs % 4 == 0) (Some (map word_of (first_chunks 4 (length bs / 4) bs))) None

-- one item in front of the list, if there is one
abbrev pub behind : {X E : Type 0} → X → Result (List X) E → Result (List X) E
behind x (Ok xs) = Ok (x ∷ xs)
behind x (Err e) = Err e

-- the items in front of the list, if there is one
abbrev pub after : {X E : Type 0} → List X → Result (List X) E → Result (List X) E
after [] r = r
after (x ∷ xs) r = behind x (after xs r)

-- the line of an order
unfoldable pub line_of : Order → Result ℕ LineRefusal
line_of o = encoded o

-- the four bytes of a line, the most significant first
abbrev pub line_bytes_of : ℕ → List ℕ
line_bytes_of x = (x / 16777216 % 256) ∷ (x / 65536 % 256) ∷ (x / 256 % 256) ∷ (x % 256) ∷ []

-- the bytes of a line and what follows them, or the fault of an order that has none
abbrev pub packed_line : ℕ → Result ℕ LineRefusal → Result (List ℕ) PackFault → Result (List ℕ) PackFault
packed_line place (Ok x) rest = after (line_bytes_of x) rest
packed_line place (Err e) rest = Err (record { refusal = e; place = place })

-- the packed script of the orders from a place on, or the first that has no line
unfoldable pub packed : ℕ → List Order → Result (List ℕ) PackFault
packed place [] = Ok []
packed place (o ∷ os) = packed_line place (line_of o) (packed (suc place) os)

-- the lines of a text: byte 10 ends a line, and the last may lack it
unfoldable pub text_lines : List ℕ → List (List ℕ)
text_lines [] = []
text_lines (b ∷ bs) = cond (b == 10) ([] ∷ text_lines bs) (onto_first b (text_lines bs))

-- a line that is passed over: it is empty, or begins with #
abbrev pub passed : List ℕ → Bool
passed l = length l == 0 || slice_index l 0 == 35

-- the orders of a line: none where it is passed over, else the one that it writes
unfoldable pub line_orders : List ℕ → Option (List Order)
line_orders l = cond (passed l) (Some []) (option_map (λ o. o ∷ []) (order_of l))

-- the orders of a line and of those that follow, or the number of a line that cannot be read
abbrev pub judged : ℕ → Option (List Order) → Result (List Order) ℕ → Result (List Order) ℕ
judged n None rest = Err n
judged n (Some os) rest = after os rest

-- the orders of the lines from a number on, or the number of the first that cannot be read
unfoldable pub orders_from : ℕ → List (List ℕ) → Result (List Order) ℕ
orders_from n [] = Ok []
orders_from n (l ∷ ls) = judged n (line_orders l) (orders_from (suc n) ls)

-- the orders of a text, or the number of the first line that cannot be read, from 1
abbrev pub orders_of : List ℕ → Result (List Order) ℕ
orders_of bs = orders_from 1 (text_lines bs)
