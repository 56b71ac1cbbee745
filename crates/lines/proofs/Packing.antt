-- Fields and numbers: a number is that of its fields, and fields that fit are those of their number.
use Rattle.std.proofs.Common.{◌≡◌, ℕ, ◌+◌, ◌*◌, ◌/◌, ◌%◌, ◌^◌, ◌<◌, true, arith}
use lib.Bits.{bit_or}
use Rattle.std.proofs.lemmas.Nat.{or_shifted, shr-shr, div-add-mod'}
use Rattle.std.proofs.lemmas.Bool.Decides.{nat_tests}
use Rattle.lines.specs.declared.fields.Fields.{Fields}
use Rattle.lines.specs.Line.{fits, fields_of_line, line_of_fields}

-- each field is below the power of two of its bits
pub record Small (f : Fields) : Type 0 where
  pub operation : f.operation < 8
  pub first : f.first < 256
  pub second : f.second < 256
  pub port : f.port < 32
  pub kind : f.kind < 16
  pub state : f.state < 8
  pub spare : f.spare < 2

pub small : (f : Fields) → fits f ≡ true → Small f
small f h =
    record {
      operation = grind (arith, nat_tests);
      first = grind (arith, nat_tests);
      second = grind (arith, nat_tests);
      port = grind (arith, nat_tests);
      kind = grind (arith, nat_tests);
      state = grind (arith, nat_tests);
      spare = grind (arith, nat_tests);
    }

pub fitting : (f : Fields) → Small f → fits f ≡ true
fitting f s = grind (arith, nat_tests)

-- the fields of a number fit, but for the operation of one that is too large
pub cut : (x : ℕ) → (fields_of_line x).operation < 8 → Small (fields_of_line x)
cut x h =
    record { operation = h; first = omega arith; second = omega arith; port = omega arith; kind = omega arith; state = omega arith; spare = omega arith }

-- a number is that of its fields
pub whole : (x : ℕ) → line_of_fields (fields_of_line x) ≡ x
whole x =
    omega (
      arith,
      div-add-mod' x 2,
      div-add-mod' (x / 2) 8,
      div-add-mod' (x / 16) 16,
      div-add-mod' (x / 256) 32,
      div-add-mod' (x / 8192) 256,
      div-add-mod' (x / 2097152) 256,
      shr-shr x 1 3,
      shr-shr x 4 4,
      shr-shr x 8 5,
      shr-shr x 13 8,
      shr-shr x 21 8,
    )

-- fields that agree one by one are the same
pub same : (f g : Fields)
    → f.operation ≡ g.operation → f.first ≡ g.first → f.second ≡ g.second → f.port ≡ g.port → f.kind ≡ g.kind → f.state ≡ g.state → f.spare ≡ g.spare
    → f ≡ g
same f g o x y p t q s =
    λ i. record { operation = o i; first = x i; second = y i; port = p i; kind = t i; state = q i; spare = s i }

-- fitting fields are those of their number
pub parts : (f : Fields) → Small f → fields_of_line (line_of_fields f) ≡ f
parts f s = same (fields_of_line (line_of_fields f)) f (omega arith) (omega arith) (omega arith) (omega arith) (omega arith) (omega arith) (omega arith)

-- the number of fitting fields has 32 bits
pub bounded : (f : Fields) → Small f → line_of_fields f < 2 ^ 32
bounded f s = omega arith

-- fitting fields, shifted to their places and joined by `|`, are their number
pub joined : (f : Fields) → Small f
    → bit_or (bit_or (bit_or (bit_or (bit_or (bit_or (f.operation * 536870912 % 4294967296) (f.first * 2097152 % 4294967296)) (f.second * 8192 % 4294967296)) (f.port * 256 % 4294967296)) (f.kind * 16 % 4294967296)) (f.state * 2 % 4294967296)) f.spare
    ≡ line_of_fields f
joined f s =
    let operation : f.operation * 536870912 % 4294967296 ≡ f.operation * 536870912 = omega arith in
    let first : f.first * 2097152 % 4294967296 ≡ f.first * 2097152 = omega arith in
    let second : f.second * 8192 % 4294967296 ≡ f.second * 8192 = omega arith in
    let port : f.port * 256 % 4294967296 ≡ f.port * 256 = omega arith in
    let kind : f.kind * 16 % 4294967296 ≡ f.kind * 16 = omega arith in
    let state : f.state * 2 % 4294967296 ≡ f.state * 2 = omega arith in
    let z = f.operation * 256 + f.first in
    let y = z * 256 + f.second in
    let p = y * 32 + f.port in
    let k = p * 16 + f.kind in
    let t = k * 8 + f.state in
    let z' : bit_or (f.operation * 536870912) (f.first * 2097152) ≡ z * 2097152 = omega (arith, or_shifted f.operation 29 (f.first * 2097152) (omega arith)) in
    let y' : bit_or (z * 2097152) (f.second * 8192) ≡ y * 8192 = omega (arith, or_shifted z 21 (f.second * 8192) (omega arith)) in
    let p' : bit_or (y * 8192) (f.port * 256) ≡ p * 256 = omega (arith, or_shifted y 13 (f.port * 256) (omega arith)) in
    let k' : bit_or (p * 256) (f.kind * 16) ≡ k * 16 = omega (arith, or_shifted p 8 (f.kind * 16) (omega arith)) in
    let t' : bit_or (k * 16) (f.state * 2) ≡ t * 2 = omega (arith, or_shifted k 4 (f.state * 2) (omega arith)) in
    rw (operation, first, second, port, kind, state, z', y', p', k', t', or_shifted t 1 f.spare (omega arith)) (omega arith)
