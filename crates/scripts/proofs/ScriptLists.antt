-- Items in front of a list that may be missing.
use Rattle.std.proofs.Common.{◌≡◌, List, [], ◌∷◌, ◌++◌, Ok, Err, Result, refl, ap}
use Rattle.scripts.specs.Scripts.{after, behind}

-- items after items
pub after_append : {X E : Type 0} (xs ys : List X) (r : Result (List X) E) → after (xs ++ ys) r ≡ after xs (after ys r)
after_append [] ys r = refl
after_append (x ∷ xs) ys r = ap (behind x) (after_append xs ys r)

-- a list after items
pub after_ok : {X E : Type 0} (xs ys : List X) → after {E = E} xs (Ok ys) ≡ Ok (xs ++ ys)
after_ok [] ys = refl
after_ok {E = E} (x ∷ xs) ys = ap (behind x) (after_ok {E = E} xs ys)

-- what is wrong stays so
pub after_err : {X E : Type 0} (xs : List X) (e : E) → after xs (Err e) ≡ Err e
after_err [] e = refl
after_err (x ∷ xs) e = ap (behind x) (after_err xs e)
