-- The turns of the loops over rows. Assumes nothing.
use Rattle.std.proofs.Common.{◌≡◌, ℕ, zero, suc, ◌+◌, ◌-◌, ◌*◌, ◌<◌, ◌≤◌, ◌≢◌, true, false, ltb, List, length, take, get_or, set, count_ones, refl, sym, ap, add-one, ◌∙◌, inl, inr, arith}
use Rattle.std.specs.List.{CopiedTo, SameBelow}
use Rattle.std.specs.List.Sorted.{IsNonDecreasingBy, IsPartitionPoint, IsPartitionedBy}
use Rattle.std.proofs.lemmas.List.{get_or-set_same, get_or-set_other, get_or-take, get_or_default, length-take-le}
use Rattle.std.proofs.lemmas.List.Sorted.{IsPartitionedBy-ltb}
use Rattle.std.proofs.lemmas.Nat.{ones-le}
use Rattle.std.proofs.lemmas.Bool.{cases_lt, ltb-true, ltb-false}
use Rattle.model.specs.Search.{sum_below}
use Rattle.model.proofs.Sums.{sum_same_below}
use Rattle.table.specs.declared.row.Row.{Row}
use Rattle.table.specs.Rows.{blank, row, rank, total, Ordered, Formed, Place, Opened, Closed, Kept}

-- the point at which the first n rows reach the rank k is its place
pub partition_place : (xs : List Row) (n k r : ℕ) → n ≤ length xs → r ≤ length (take n xs) →
    IsPartitionPoint (λ b. ltb (rank b) k ≡ true) (λ b. ltb (rank b) k ≡ false) (take n xs) r → Place xs n k r
partition_place xs n k r room most point =
    record {
      most = omega (arith, most, long);
      before = λ i l. let e = get_or-take n xs i blank (omega (arith, most, long)) in
          omega (arith, ltb-true (rank (row xs i)) k (ap (λ b. ltb (rank b) k) (sym e) ∙ point.0 i blank (omega arith) l));
      after = λ i l m. let e = get_or-take n xs i blank m in
          omega (arith, ltb-false (rank (row xs i)) k (ap (λ b. ltb (rank b) k) (sym e) ∙ point.1 i blank l (omega (arith, long))));
    }
  where
    long : length (take n xs) ≡ n
    long = length-take-le n xs room

-- rows that rise are parted by any rank
pub rows_parted : (xs : List Row) (n k : ℕ) → n ≤ length xs → Ordered xs n → IsPartitionedBy (λ b. ltb (rank b) k) (take n xs)
rows_parted xs n k room o = IsPartitionedBy-ltb rank (take n xs) k rises
  where
    at : (i : ℕ) (d : Row) → i < length (take n xs) → get_or (take n xs) i d ≡ row xs i
    at i d l = get_or_default (take n xs) i d blank l ∙ get_or-take n xs i blank (omega (arith, length-take-le n xs room))

    rises : IsNonDecreasingBy rank (take n xs)
    rises i j d l m =
        rw (at i d (omega arith), at j d m)
        (elim (cases_lt i j) [
          | inl lt ↦ let r = o i j lt (omega (arith, length-take-le n xs room)) in omega arith
          | inr ge ↦ let e : i ≡ j = omega arith in omega (arith, ap (λ k. rank (row xs k)) e)
        ])

-- the rows from r on copied one place up
pub opened_of : (xs ys : List Row) (r n : ℕ) → r ≤ n → CopiedTo xs ys r (r + 1) (n - r) → SameBelow xs ys (r + 1) → Opened xs ys r n
opened_of xs ys r n most copied below =
    record {
      below = λ k l. below k blank (omega arith);
      above = λ k l m. copied (k + 1) blank (omega arith) (omega arith) ∙ (let e : r + (k + 1 - (r + 1)) ≡ k = omega arith in ap (row xs) e);
    }

-- the rows behind r copied one place down
pub closed_of : (xs ys : List Row) (r n : ℕ) → r < n → CopiedTo xs ys (r + 1) r (n - (r + 1)) → SameBelow xs ys r → Closed xs ys r n
closed_of xs ys r n inside copied below =
    record {
      inside = inside;
      below = λ k l. below k blank l;
      above = λ k l m. copied k blank l (omega arith) ∙ (let e : r + 1 + (k - r) ≡ k + 1 = omega arith in ap (row xs) e);
    }

-- the numbers of ports of the rows that were not written are the same
total_same : (xs ys : List Row) (n : ℕ) → ((i : ℕ) → i < n → row ys i ≡ row xs i) → total ys n ≡ total xs n
total_same xs ys n h = sum_same_below (λ i. count_ones (row xs i).ports) (λ i. count_ones (row ys i).ports) n (λ i l. ap (λ (b : Row). count_ones b.ports) (h i l))

-- with one row more its ports count
total_more : (xs : List Row) (n : ℕ) → total xs (n + 1) ≡ total xs n + count_ones (row xs n).ports
unfolding sum_below
total_more xs n = rw (add-one n) refl

-- a row has at most 32 ports
total_few : (xs : List Row) (n : ℕ) → total xs n ≤ n * 32
unfolding sum_below
total_few xs zero = omega arith
total_few xs (suc n) = let before = total_few xs n in let here = ones-le 32 (row xs n).ports (row xs n).in_range.2 in omega arith

-- of the first i rows m are kept, and the row i is looked at
module _ (xs ys : List Row) (n i m z d : ℕ) (o : Ordered xs n) (li : i < n) (kept : Kept xs ys i m z d) (rest : (k : ℕ) → i ≤ k → row ys k ≡ row xs k) where
  -- the ports of those that were left out are few
  pub dropped_few : d + count_ones (row ys i).ports ≤ (i + 1) * 32
  dropped_few =
      let b = row ys i in
      omega (arith, kept.counted, total_few xs i, ones-le 32 b.ports b.in_range.2)

  -- a row of the requirer z is left out
  pub keep_not : (row ys i).requirer ≡ z → Kept xs ys (i + 1) m z (d + count_ones (row ys i).ports)
  keep_not is =
      record {
        fewer = omega (arith, kept.fewer);
        from = λ j l. let r = kept.from j l in ((r.0.0, omega (arith, r.0.1), r.0.2), r.1);
        all = λ k l ne. elim (cases_lt k i) [
          | inl lt ↦ kept.all k lt ne
          | inr ge ↦ let e : k ≡ i = omega arith in absurd (ne (ap (λ j. (row xs j).requirer) e ∙ ap (λ (b : Row). b.requirer) (sym (rest i (omega arith))) ∙ is))
        ];
        ordered = kept.ordered;
        counted =
            let same = ap (λ (b : Row). count_ones b.ports) (rest i (omega arith)) in
            omega (arith, kept.counted, total_more xs i, same);
      }

  -- any other row is kept
  module _ (room : i < length ys) (ne : (row ys i).requirer ≢ z) where
    abbrev after : List Row
    after = set ys m (row ys i)

    new : row after m ≡ row xs i
    new = get_or-set_same ys m (row ys i) blank (omega (arith, kept.fewer)) ∙ rest i (omega arith)

    old : (j : ℕ) → j < m → row after j ≡ row ys j
    old j l = get_or-set_other ys m j (row ys i) blank (omega arith)

    rises : (j k : ℕ) → j < k → k < m + 1 → rank (row after j) < rank (row after k)
    rises j k a b =
        elim (cases_lt k m) [
          | inl lt ↦ let r = kept.ordered j k a lt in rw (old j (omega arith), old k lt) r
          | inr ge ↦
              let e : k ≡ m = omega arith in
              let lj : j < m = omega arith in
              let f = (kept.from j lj).0 in
              let r = o f.0 i f.1 li in
              rw (e, new, old j lj, ← f.2) r
        ]

    pub keep_one : Kept xs after (i + 1) (m + 1) z d
    keep_one =
        record {
          fewer = omega (arith, kept.fewer);
          from = λ j l. elim (cases_lt j m) [
            | inl lt ↦ let r = kept.from j lt in ((r.0.0, omega (arith, r.0.1), r.0.2 ∙ sym (old j lt)), rw (old j lt) r.1)
            | inr ge ↦ let e : j ≡ m = omega arith in ((i, omega arith, sym (ap (row after) e ∙ new)), rw (e, new, ← rest i (omega arith)) ne)
          ];
          all = λ k l other. elim (cases_lt k i) [
            | inl lt ↦ let r = kept.all k lt other in (r.0, omega (arith, r.1), old r.0 r.1 ∙ r.2)
            | inr ge ↦ let e : k ≡ i = omega arith in (m, omega arith, new ∙ ap (row xs) (sym e))
          ];
          ordered = rises;
          counted =
              let same = ap (λ (b : Row). count_ones b.ports) new in
              omega (arith, kept.counted, total_more xs i, total_more after m, total_same ys after m old, same);
        }

    pub keep_rest : (k : ℕ) → i + 1 ≤ k → row after k ≡ row xs k
    keep_rest k l = get_or-set_other ys m k (row ys i) blank (omega (arith, kept.fewer)) ∙ rest k (omega arith)

-- the rows that are kept are not empty either
pub kept_formed : (xs ys : List Row) (n m z d : ℕ) → Formed xs n → Kept xs ys n m z d → Formed ys m
kept_formed xs ys n m z d formed kept =
    record {
      ordered = kept.ordered;
      filled = λ j l none. let f = (kept.from j l).0 in formed.filled f.0 f.1 (ap (λ (b : Row). b.ports) f.2 ∙ none);
    }
