-- Bytes as hexadecimal digits.
use Rattle.std.specs.Prelude.{ℕ, ◌+◌, ◌-◌, ◌*◌, ◌/◌, ◌%◌, cond, ◌&&◌, List, [], ◌∷◌, ◌++◌, length, Some, None, Option, ◌==◌, nat_le, slice_index}
use Rattle.std.specs.Simd.{first_chunks}

-- the value of a digit, in either case of the letters
abbrev pub digit_of : ℕ → Option ℕ
digit_of b =
    cond (nat_le 48 b && nat_le b 57) (Some (b - 48))
    (cond (nat_le 97 b && nat_le b 102) (Some (b - 87))
    (cond (nat_le 65 b && nat_le b 70) (Some (b - 55)) None))

-- the byte of two digits
abbrev pub byte_of : Option ℕ → Option ℕ → Option ℕ
byte_of None o = None
byte_of (Some a) None = None
byte_of (Some a) (Some b) = Some (a * 16 + b)

-- bytes and those that follow, if these are there
abbrev pub behind : List ℕ → Option (List ℕ) → Option (List ℕ)
behind bs None = None
behind bs (Some cs) = Some (bs ++ cs)

-- a byte and those that follow, if all are there
abbrev pub joined_to : Option ℕ → Option (List ℕ) → Option (List ℕ)
joined_to None o = None
joined_to (Some b) o = behind (b ∷ []) o

-- the bytes of pairs of digits, if all are digits
unfoldable pub pairs_of : List (List ℕ) → Option (List ℕ)
pairs_of [] = Some []
pairs_of (p ∷ ps) = joined_to (byte_of (digit_of (slice_index p 0)) (digit_of (slice_index p 1))) (pairs_of ps)

-- the bytes that the digits write, two for each, if all are digits and their number is even
abbrev pub bytes_of : List ℕ → Option (List ℕ)
bytes_of ds = cond (length ds % 2 == 0) (pairs_of (first_chunks 2 (length ds / 2) ds)) None
