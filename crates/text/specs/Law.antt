-- The law of the written form: an order comes back from its text, and a text is read as an order exactly if it writes it.
use Rattle.std.specs.Prelude.{◌≡◌, ℕ, ◌^◌, ◌<◌, List, [], ◌∷◌, ◌++◌, Some, codes}
use Rattle.std.specs.Str.Parse.{IsNumeral, digits_value}
use Rattle.model.specs.declared.order.Order.{Order}
use Rattle.model.specs.declared.order.Order.TheVariants.{Create, Bind, Change, Unbind, Delete}
use Rattle.model.specs.Written.{written}
use Rattle.text.specs.Written.{order_of}

-- the letter of an order
abbrev pub letter : Order → List ℕ
letter (Create z t) = codes "c"
letter (Bind b) = codes "b"
letter (Change z q) = codes "s"
letter (Unbind b) = codes "u"
letter (Delete z) = codes "d"

-- the numbers of an order
abbrev pub numbers : Order → List ℕ
numbers (Create z t) = z ∷ t ∷ []
numbers (Bind b) = b.port ∷ b.provider ∷ b.requirer ∷ []
numbers (Change z q) = z ∷ q ∷ []
numbers (Unbind b) = b.port ∷ b.provider ∷ b.requirer ∷ []
numbers (Delete z) = z ∷ []

-- the bytes are one decimal digit or more, and their value is n
pub record Spells (ds : List ℕ) (n : ℕ) : Type 0 where
  pub numeral : IsNumeral 10 ds
  pub worth : digits_value 10 ds ≡ n

-- the bytes are numerals of the numbers, with single blanks between them
abbrev pub SpellsAll : List ℕ → List ℕ → Type 0
SpellsAll bs [] = bs ≡ []
SpellsAll bs (n ∷ []) = Spells bs n
SpellsAll bs (n ∷ m ∷ ms) = (ds : List ℕ) × (rest : List ℕ) × (bs ≡ ds ++ (codes " " ++ rest)) × Spells ds n × SpellsAll rest (m ∷ ms)

-- the bytes write the order: its letter, a blank, and its numbers
abbrev pub Writes : List ℕ → Order → Type 0
Writes bs o = (rest : List ℕ) × (bs ≡ letter o ++ (codes " " ++ rest)) × SpellsAll rest (numbers o)

-- each number has 32 bits
abbrev pub AllNarrow : List ℕ → Type 0
AllNarrow [] = Unit {0}
AllNarrow (n ∷ ns) = (n < 2 ^ 32) × AllNarrow ns

-- each number of the order has 32 bits
abbrev pub Narrow : Order → Type 0
Narrow o = AllNarrow (numbers o)

-- an order comes back from its written form, and what is read as an order is just what writes it
pub record WrittenLaw : Type 0 where
  pub back : (o : Order) → Narrow o → order_of (written o) ≡ Some o
  pub reads : (bs : List ℕ) (o : Order) → order_of bs ≡ Some o → Writes bs o × Narrow o
  pub read : (bs : List ℕ) (o : Order) → Writes bs o → Narrow o → order_of bs ≡ Some o
