-- Searches and sums over numbers.
use Rattle.std.specs.Prelude.{ℕ, zero, suc, ◌+◌, Bool, false, cond, ◌||◌, Some, None, Option}

-- some number below n passes
unfoldable pub any : (ℕ → Bool) → ℕ → Bool
any f zero = false
any f (suc n) = any f n || f n

-- the first of two, if it is there, else the second
abbrev pub first_there : {X : Type 0} → Option X → Option X → Option X
first_there (Some a) o = Some a
first_there None o = o

-- what the first number below n that finds something finds
unfoldable pub find_first : {X : Type 0} → (ℕ → Option X) → ℕ → Option X
find_first f zero = None
find_first f (suc n) = first_there (find_first f n) (f n)

-- what the numbers below n give together
unfoldable pub sum_below : (ℕ → ℕ) → ℕ → ℕ
sum_below f zero = 0
sum_below f (suc n) = sum_below f n + f n

-- one for what passes
abbrev pub one : Bool → ℕ
one b = cond b 1 0
