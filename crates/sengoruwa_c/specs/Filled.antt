-- What a caller's list holds after numbers were written into it.
use Rattle.std.specs.Prelude.{ℕ, List, ◌++◌, drop, length, map, min}
use Rattle.std.specs.List.{range_with_len}

-- the list with f of the place in each of its first k places, and behind them what it held
abbrev pub begun : (ℕ → ℕ) → ℕ → List ℕ → List ℕ
begun f k xs = map f (range_with_len 0 k) ++ drop k xs

-- the same in its first n places, as far as it has them
abbrev pub filled : (ℕ → ℕ) → ℕ → List ℕ → List ℕ
filled f n xs = begun f (min (length xs) n) xs
