-- The suppliers of a plan, and what is written of its links, steps, instances and script. Assumes nothing.
use Rattle.std.proofs.Common.{◌&&◌, ◌*◌, List, [], ◌∷◌, ◌≡◌, ℕ, zero, suc, ◌+◌, ◌-◌, ◌^◌, ◌<◌, ◌≤◌, Bool, true, false, not, length, drop, get_or, ap, sym, ltb, ◌∙◌, subst, IsOk, All, eqb, refl, inl, inr, arith}
use denote.Param.Members.{Mut, Called}
use lib.Bits.{bit_and}
use Rattle.std.specs.Int.{bit_not, w32}
use Rattle.std.proofs.Math.Path.{fun_ext}
use Rattle.std.specs.Array.{IsFromFnResultFrom}
use Rattle.std.proofs.lemmas.Bool.Decides.{nat_tests}
use Rattle.std.proofs.lemmas.Bool.{cases_eq, eq-eqb, le-ltb}
use Rattle.std.proofs.lemmas.List.{drop_all, drop_more}
use Rattle.std.proofs.lemmas.List.Folds.{list_any_at}
use Rattle.std.proofs.lemmas.List.Sums.{prefix_len-le-length}
use Rattle.model.specs.declared.pair.Pair.{Pair}
use Rattle.model.specs.Config.{pair}
use Rattle.model.specs.declared.order.Order.{Order}
use Rattle.model.specs.declared.order.Order.TheVariants.{Create, Change}
use Rattle.model.specs.Universe.{Universe, Valid}
use Rattle.universe.specs.Sets.{has}
use Rattle.universe.specs.Tables.{entry_at}
use Rattle.closing.specs.declared.order.ClosingOrder.{ClosingOrder}
use Rattle.closing.specs.Order.{pairs_in_order, universe_in_order}
use Rattle.closing.proofs.Masks.{has_and_not, has_none}
use Rattle.lines.specs.Line.{encoded}
use Rattle.plans.specs.Plan.{Plan, binding, build, order_if, port_orders, script_of, step, walk}
use Rattle.plans.proofs.Closed.{Closed}
use Rattle.plans.proofs.Measures.{script_length}
use Rattle.plans.proofs.Paths.{path_listed, path_short}
use Rattle.plans.proofs.Ranks.{listed_at}
use Rattle.plans.specs.Needs.{path}
use Rattle.plans.specs.Lists.{listed, lists_below, pair_at, rank_of, same_pair}
use Rattle.planner.specs.declared.writing.Link.{Link}
use Rattle.planner.specs.declared.writing.Link.TheVariants.{Made, Ended}
use Rattle.planner.specs.Writing.{PlanFits, Wrote, linked, links, plan_on}
use Rattle.planner.proofs.Climbing.{closed_order, valid_order}
use Rattle.planner.proofs.Placing.{wrote_more, wrote_none, wrote_then}

-- a number is at most the length of the list
pub rank_most : (l : List Pair) (h : Pair) → rank_of l h ≤ length l
rank_most l h = prefix_len-le-length (λ g. not (same_pair h g)) l

-- a list that the calls of a closure gave, each what f gives of its number
pub made_at : {F B : Type 0} {g : Mut F (ℕ × Unit {0}) B} (f : ℕ → B) (s : F) (ys : List B) →
    ((i : ℕ) (y : B) (t : F) → Called g s (i, tt) y t → (t ≡ s) × (y ≡ f i)) →
    (i n : ℕ) → IsFromFnResultFrom g s ys i n → (k : ℕ) (d : B) → i ≤ k → k < i + n → get_or ys k d ≡ f k
made_at f s ys gives i zero made k d from to = absurd (omega arith)
made_at {F} {B} {g} f s ys gives i (suc n) (t, y, at, called, rest) k d from to =
    let w = gives i y t called in
    elim (cases_eq k i) [
      | inl same ↦ rw same (at.1 d ∙ w.1)
      | inr other ↦
          let further = subst (λ (u : F). IsFromFnResultFrom g u ys (i + 1) n) w.0 rest in
          made_at f s ys gives (i + 1) n further k d (omega arith) (omega arith)
    ]

-- orders with small numbers have lines
pub create_in_line : (z t : ℕ) → z < 256 → t < 16 → IsOk (encoded (Create z t))
create_in_line z t a b = grind (arith, nat_tests)

pub change_in_line : (z q : ℕ) → z < 256 → q < 8 → IsOk (encoded (Change z q))
change_in_line z q a b = grind (arith, nat_tests)

pub link_in_line : (link : Link) (p x y : ℕ) → p < 32 → x < 256 → y < 256 → IsOk (encoded (linked link (binding p x y)))
link_in_line Made p x y a b c = grind (arith, nat_tests)
link_in_line Ended p x y a b c = grind (arith, nat_tests)

-- an order that is written if a test holds
module _ {b : Bool} (o : Order) where
  pub wrote_if : {xs zs : List ℕ} {j m : ℕ} → b ≡ true → Wrote xs j (o ∷ []) zs m → Wrote xs j (order_if b o) zs m
  wrote_if e w = rw e w

  pub wrote_unless : (xs : List ℕ) (j : ℕ) → b ≡ false → Wrote xs j (order_if b o) xs j
  wrote_unless xs j e = rw e (wrote_none xs j)

-- what is in one set of ports and not in another
pub new_told : (absent present : ℕ) → absent < 2 ^ 32 → (p : ℕ) →
    has 32 (bit_and present (bit_not w32 absent)) p ≡ (has 32 present p && not (has 32 absent p))
new_told absent present small = has_and_not w32 present absent small

-- of an empty set there are no links
no_links : (n : ℕ) (link : Link) (supplier : ℕ → ℕ) (z : ℕ) → links n link supplier z 0 ≡ []
unfolding lists_below
no_links zero link supplier z = refl
no_links (suc n) link supplier z = rw (no_links n link supplier z, has_none 32 n)

pub wrote_no_links : (n : ℕ) (link : Link) (supplier : ℕ → ℕ) (z ports : ℕ) (xs : List ℕ) (j : ℕ) → ports ≡ 0 →
    Wrote xs j (links n link supplier z ports) xs j
wrote_no_links n link supplier z ports xs j none = rw (none, no_links n link supplier z) (wrote_none xs j)

-- the ports that are new in a state are those that are new in what it requires
pub wrote_links : (c : ClosingOrder) (ns : List Pair) (link : Link) (z q r a b new : ℕ) {xs ys : List ℕ} {i j : ℕ} →
    ((p : ℕ) → has 32 new p ≡ (has 32 b p && not (has 32 a p))) →
    a ≡ (entry_at c.universe.tables (pair_at ns z).kind q).required →
    b ≡ (entry_at c.universe.tables (pair_at ns z).kind r).required →
    Wrote xs i (links (universe_in_order c).ports link (plan_on c ns).supplier z new) ys j →
    Wrote xs i (port_orders (linked link) (universe_in_order c) (plan_on c ns) z q r) ys j
unfolding port_orders
wrote_links c ns link z q r a b new told before after w =
    rw (← before, ← after)
    (rw (fun_ext (λ p. ap (λ t. order_if t (linked link (binding p ((plan_on c ns).supplier p) z))) (told p))) at w)

-- a walk is its steps, one behind the other
module _ (u : Universe) (s : Plan) (z : ℕ) (rs : List ℕ) (xs : List ℕ) (j : ℕ) where
  -- with what is left of a walk, from the state q over all but the first i states, written behind them, the whole walk
  -- is written
  abbrev pub Walked : ℕ → ℕ → List ℕ → ℕ → Type 0
  Walked i q ys m =
      (zs : List ℕ) (n : ℕ) → Wrote ys m (walk u s z q (drop i rs)) zs n → Wrote xs j (walk u s z 0 rs) zs n

  -- with one step more
  pub walk_more : (i q : ℕ) {ys zs : List ℕ} {m n : ℕ} → i < length rs → Walked i q ys m →
      Wrote ys m (step u s z q (get_or rs i 0)) zs n → Walked (i + 1) (get_or rs i 0) zs n
  unfolding walk
  walk_more i q low walked here = λ ws k rest. walked ws k (rw (drop_more rs i 0 low) (wrote_then here rest))

  -- with the last step
  pub walk_ends : (i q : ℕ) {ys : List ℕ} {m : ℕ} → length rs ≤ i → Walked i q ys m →
      Wrote xs j (walk u s z 0 rs) ys m
  unfolding walk
  walk_ends i q {ys} {m} past walked = walked ys m (rw (drop_all i rs past) (wrote_none ys m))

-- the pair of an instance is listed, and the numbers of its create and its changes are small
module _ (o : ClosingOrder) (ns : List Pair) (suppliers : List ℕ) (plan : PlanFits o ns suppliers) where
  abbrev valid : Valid (universe_in_order o)
  valid = valid_order o

  abbrev closed : Closed (universe_in_order o) (pairs_in_order o)
  closed = closed_order o

  pair_listed : (z : ℕ) → z < length ns → listed (pairs_in_order o) (pair_at ns z) ≡ true
  pair_listed z low = plan.sub (pair_at ns z) (listed_at ns z low)

  pub kind_small : (z : ℕ) → z < length ns → (pair_at ns z).kind < 16
  kind_small z low =
      let most = valid.types.1 in
      let there = (closed.pairs (pair_at ns z) (pair_listed z low)).0 in
      omega arith

  pub path_small : (z : ℕ) → z < length ns → All (λ q. q < 8) (path (universe_in_order o) (pairs_in_order o) (pair_at ns z))
  path_small z low k d at =
      let h = pair_at ns z in
      let is_listed = pair_listed z low in
      let rs = path (universe_in_order o) (pairs_in_order o) h in
      let q = get_or rs k d in
      let on = list_any_at (λ r. eqb r q) rs k d at (eq-eqb q q refl) in
      let step = path_listed (universe_in_order o) (pairs_in_order o) closed h is_listed q on in
      let there = closed.pairs (pair h.kind q) step.0 in
      let most = (valid.states h.kind there.0).1 in
      omega arith

  script_most : length (script_of (universe_in_order o) (plan_on o ns)) ≤ 232 * length ns
  script_most =
      script_length (universe_in_order o) (plan_on o ns) valid
      (λ z _ low. path_short (universe_in_order o) (pairs_in_order o) closed (pair_at ns z) (pair_listed z (omega arith)) valid)

  -- its script can be counted
  pub short : length (script_of (universe_in_order o) (plan_on o ns)) ≤ 2 ^ 64 - 1
  short =
      let few = plan.few in
      let most = script_most in
      omega arith

  -- a list with places for every script is not short of one of 48 pairs
  pub never_short : length ns ≤ 48 → (room : ℕ) → 11136 ≤ room → false ≡ ltb room (length (script_of (universe_in_order o) (plan_on o ns)))
  never_short few room all =
      let most = script_most in
      sym (le-ltb room _ (omega arith))

-- an instance is its create, and its walk over the path of its pair
pub wrote_build : (c : ClosingOrder) (ns : List Pair) (z : ℕ) (o : Order) (rs : List ℕ) {xs ys zs : List ℕ} {i j k : ℕ} →
    o ≡ Create z (pair_at ns z).kind →
    rs ≡ path (universe_in_order c) (pairs_in_order c) (pair_at ns z) →
    Wrote xs i (o ∷ []) ys j →
    Wrote ys j (walk (universe_in_order c) (plan_on c ns) z 0 rs) zs k →
    Wrote xs i (build (universe_in_order c) (plan_on c ns) z) zs k
unfolding build
wrote_build c ns z o rs is along made walked = wrote_then (rw is at made) (rw along at walked)

-- the first n instances of a plan, one behind the other
module _ (c : ClosingOrder) (ns : List Pair) where
  abbrev pub instances : ℕ → List Order
  instances = lists_below (λ z. build (universe_in_order c) (plan_on c ns) (0 + z))

  -- with one instance more
  pub wrote_instance : {xs ys zs : List ℕ} {i j k : ℕ} (n : ℕ) → Wrote xs i (instances n) ys j →
      Wrote ys j (build (universe_in_order c) (plan_on c ns) n) zs k → Wrote xs i (instances (n + 1)) zs k
  wrote_instance n before here =
      let same : n ≡ 0 + n = omega arith in
      wrote_more _ n before (rw same at here)

  -- all of them are the script
  pub wrote_script : {xs zs : List ℕ} {i k : ℕ} (n : ℕ) → n ≡ length ns → Wrote xs i (instances n) zs k →
      Wrote xs i (script_of (universe_in_order c) (plan_on c ns)) zs k
  unfolding script_of
  wrote_script n all w = rw all at w
