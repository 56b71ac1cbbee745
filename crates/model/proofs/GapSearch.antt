-- The search for gaps below a bound finds every gap, and only gaps. Assumes nothing.
use Rattle.std.proofs.Common.{◌≡◌, ℕ, ◌<◌, true, false, ◌&&◌, sym, ap, ◌∙◌, inl, inr}
use mathlib.Core.Bool.{false≢true}
use Rattle.std.proofs.lemmas.Bool.{and_from, and_parts, both_ways, cases_lt, not_from_false, not-true}
use Rattle.model.specs.Search.{any}
use Rattle.model.specs.Universe.{Universe, Valid}
use Rattle.model.specs.Config.{Config, provided, required}
use Rattle.model.specs.Gaps.{Gap}
use Rattle.model.specs.Bounded.{Below, covered, gap_at, any_gap}
use Rattle.model.specs.Laws.{SearchLaw}
use Rattle.model.proofs.Searches.{refuted, any_found, any_some}
use Rattle.model.proofs.Results.{passes_some}

module _ (n : ℕ) (u : Universe) (c : Config) where
  -- a provider below n covers
  pub covers : (z p x : ℕ) → x < n → c.bound p x z ≡ true → provided u p (c.inst x) ≡ true → covered n u c z p ≡ true
  unfolding covered
  covers z p x l b q = any_found (λ x. c.bound p x z && provided u p (c.inst x)) x n l (and_from _ _ b q)

  -- what is covered has a provider
  pub cover_some : (z p : ℕ) → covered n u c z p ≡ true → (x : ℕ) × (x < n) × (c.bound p x z ≡ true) × (provided u p (c.inst x) ≡ true)
  unfolding covered
  cover_some z p e =
      let r = any_some (λ x. c.bound p x z && provided u p (c.inst x)) n e in
      let s = and_parts (c.bound p r.0 z) _ r.2 in
      (r.0, r.1, s.0, s.1)

  -- the test at one place passes where there is a gap
  pub gap_passes : (z p : ℕ) → Gap u c z p → gap_at n u c z p ≡ true
  unfolding gap_at
  gap_passes z p g =
      let out : covered n u c z p ≡ false = refuted _ (λ e. let s = cover_some z p e in g.uncovered s.0 s.2 s.3) in
      and_from (required u p (c.inst z)) _ g.requires (not_from_false _ out)

  -- and only there
  pub passes_gap : Below n c → (z p : ℕ) → gap_at n u c z p ≡ true → Gap u c z p
  unfolding gap_at
  passes_gap low z p e =
      let r = and_parts (required u p (c.inst z)) _ e in
      record {
        requires = r.0;
        uncovered = λ x b q. both_ways (covered n u c z p) (not-true _ r.1) (covers z p x (low.bound p x z b).0 b q);
      }

  -- who has a gap stands below n, and has it at a port of the universe
  pub gap_low : Valid u → Below n c → (z p : ℕ) → Gap u c z p → (z < n) × (p < u.ports)
  gap_low ok low z p g =
      let s = passes_some (c.inst z) _ g.requires in (
        elim (cases_lt z n) [
          | inl l ↦ l
          | inr out ↦ absurd (false≢true (sym (ap (required u p) (low.inst z out)) ∙ g.requires))
        ],
        (ok.requires _ _ p s.2).1,
      )

  -- the whole search finds a gap
  pub gap_found : Valid u → Below n c → (z p : ℕ) → Gap u c z p → any_gap n u c ≡ true
  unfolding any_gap
  gap_found ok low z p g =
      let l = gap_low ok low z p g in
      any_found (λ z. any (gap_at n u c z) u.ports) z n l.0 (any_found (gap_at n u c z) p u.ports l.1 (gap_passes z p g))

  -- and what it finds is one
  pub found_gap : Below n c → any_gap n u c ≡ true → (z p : ℕ) × Gap u c z p
  unfolding any_gap
  found_gap low e =
      let r = any_some (λ z. any (gap_at n u c z) u.ports) n e in
      let s = any_some (gap_at n u c r.0) u.ports r.2 in
      (r.0, s.0, passes_gap low r.0 s.0 s.2)

-- the search finds a gap exactly if there is one
pub search_law : SearchLaw
search_law n u c ok low = (
  (λ none z p g. both_ways (any_gap n u c) none (gap_found n u c ok low z p g)),
  (λ free. refuted _ (λ e. let g = found_gap n u c low e in free g.0 g.1 g.2)),
)
