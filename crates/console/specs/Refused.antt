-- The line of a refusal.
use Rattle.std.specs.Prelude.{ℕ, List, ◌++◌, Ok, Err, Result, codes, decimal}
use Rattle.universe.specs.Reading.{Read}
use Rattle.universe.specs.Refusals.{universe_number}

-- a refusal that carries no more than its number
abbrev pub refused_line_of : ℕ → List ℕ
refused_line_of number = codes "refused " ++ (decimal number ++ codes "\n")

-- what was read, or the line of the refusal
abbrev pub refusal_told : {X : Type 0} → Read X → Result X (List ℕ)
refusal_told (Ok x) = Ok x
refusal_told (Err e) = Err (refused_line_of (universe_number e))
