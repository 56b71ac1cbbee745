-- Lists of pairs, and lists made of lists.
use Rattle.std.specs.Prelude.{ℕ, zero, suc, Bool, cond, ◌&&◌, List, [], ◌++◌, get_or, Some, None, Option, ◌==◌}
use Rattle.std.specs.List.{list_any, position_or_len}
use Rattle.model.specs.declared.pair.Pair.{Pair}
use Rattle.model.specs.Config.{pair}

-- two pairs are one
abbrev pub same_pair : Pair → Pair → Bool
same_pair g h = g.kind == h.kind && g.state == h.state

-- the pair is listed
abbrev pub listed : List Pair → Pair → Bool
listed l h = list_any (same_pair h) l

-- the rank of a listed pair: its place in the list, from 0; the length of the list where the pair is not listed
abbrev pub rank_of : List Pair → Pair → ℕ
rank_of l h = position_or_len (same_pair h) l

-- the pair at a rank; the pair 0 of type 0 where there is none
abbrev pub pair_at : List Pair → ℕ → Pair
pair_at l k = get_or l k (pair 0 0)

-- the value, if the test holds
abbrev pub some_if : {X : Type 0} → Bool → X → Option X
some_if b x = cond b (Some x) None

-- the lists that the numbers below n give, end to end
unfoldable pub lists_below : {X : Type 0} → (ℕ → List X) → ℕ → List X
lists_below f zero = []
lists_below f (suc n) = lists_below f n ++ f n
