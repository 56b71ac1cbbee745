-- What the search for the first gap tells. Assumes nothing.
use Rattle.std.proofs.Common.{◌≡◌, ℕ, ◌<◌, ◌≤◌, Bool, true, false, not, ◌&&◌, is_some, Some, None, Option, sym, refl, ap, inl, inr, arith}
use Rattle.std.specs.Option.{MatchOption, option_map}
use Rattle.std.proofs.lemmas.Bool.{cases_Bool}
use Rattle.model.specs.Search.{find_first}
use Rattle.model.specs.Universe.{Universe, Valid}
use Rattle.model.specs.Config.{Config, required}
use Rattle.model.specs.Gaps.{Gap}
use Rattle.model.specs.Bounded.{Below, any_gap, covered, gap_at}
use Rattle.model.proofs.Ranges.{first_upto}
use Rattle.model.proofs.Searches.{first_found, first_no, first_some}
use Rattle.model.proofs.GapSearch.{gap_low, gap_passes, passes_gap, gap_found, search_law}
use Rattle.hosts.specs.Survey.{Situation, Lawful}
use Rattle.hosts.proofs.Offending.{lawful_below}
use Rattle.rules.specs.declared.gaps.FoundGap.{FoundGap}
use Rattle.rules.specs.declared.gaps.Prospect.{Prospect}
use Rattle.rules.specs.Finding.{FirstGap, TellsGaps, first_gap_in, first_gap_at, foreseen, gap_here}
use Rattle.rules.proofs.Foreseeing.{foreseen_below}

module _ (u : Universe) (c : Config) where
  -- the test of a gap, taken apart
  pub gap_test : (z p : ℕ) (r v : Bool) → required u p (c.inst z) ≡ r → covered 256 u c z p ≡ v → gap_at 256 u c z p ≡ (r && not v)
  unfolding gap_at
  gap_test z p r v e f = rw (e, f)

  pub here_some : (z p : ℕ) → gap_at 256 u c z p ≡ true → gap_here u c z p ≡ Some (record { instance = z; port = p })
  here_some z p e = rw e

  pub here_none : (z p : ℕ) → gap_at 256 u c z p ≡ false → gap_here u c z p ≡ None
  here_none z p e = rw e

  -- where nothing stands there is no gap
  pub none_of : (z : ℕ) → c.inst z ≡ None → (n : ℕ) → find_first (gap_here u c z) n ≡ None
  none_of z e n = first_upto (gap_here u c z) n (λ p l. here_none z p (gap_test z p false (covered 256 u c z p) (ap (required u p) e) refl))

  -- what is found is a gap of that instance at that port
  here_is : (z p : ℕ) (g : FoundGap) → gap_here u c z p ≡ Some g → (gap_at 256 u c z p ≡ true) × (g ≡ record { instance = z; port = p })
  here_is z p g e =
      elim (cases_Bool (gap_at 256 u c z p)) [
        | inl yes' ↦ (yes', (let h = here_some z p yes' in cc))
        | inr no' ↦ absurd (let h = here_none z p no' in let z : ◌≡◌ {A = ℕ} 0 1 = cc in omega arith)
      ]

  -- no gap is found where there is none
  here_not : (z p : ℕ) → gap_here u c z p ≡ None → Gap u c z p → ⊥
  here_not z p e g = let h = here_some z p (gap_passes 256 u c z p g) in let z : ◌≡◌ {A = ℕ} 0 1 = cc in omega arith

  -- the first port below n at which the instance has a gap, as its first gap
  pub first_here : (z n : ℕ) (r : Option ℕ) →
      MatchOption r ((p : ℕ) → 0 ≤ p → p < n → gap_at 256 u c z p ≡ false)
      (λ p. (0 ≤ p) × (p < n) × (gap_at 256 u c z p ≡ true) × ((q : ℕ) → 0 ≤ q → q < p → gap_at 256 u c z q ≡ false)) →
      option_map (λ p. record { instance = z; port = p }) r ≡ find_first (gap_here u c z) n
  first_here z n None h = sym (first_upto (gap_here u c z) n (λ p l. here_none z p (h p (omega arith) l)))
  first_here z n (Some p) h =
      sym (first_found (gap_here u c z) p n _ h.1
      (first_upto (gap_here u c z) p (λ q l. here_none z q (h.3 q (omega arith) l))) (here_some z p h.2))

  module _ (ok : Valid u) (low : Below 256 c) where
    -- nothing found for an instance: it has no gap
    pub of_none : (z : ℕ) → first_gap_at u c z ≡ None → (p : ℕ) → Gap u c z p → ⊥
    unfolding first_gap_at
    of_none z e p g =
        here_not z p (first_no (gap_here u c z) p u.ports e (gap_low 256 u c ok low z p g).1) g

    -- what is found for an instance is its first gap
    pub of_some : (z : ℕ) (g : FoundGap) → first_gap_at u c z ≡ Some g →
        (g.instance ≡ z) × Gap u c z g.port × ((p : ℕ) → p < g.port → Gap u c z p → ⊥)
    unfolding first_gap_at
    of_some z g e =
        let r = first_some (gap_here u c z) u.ports g e in
        let h = here_is z r.0 g r.2 in
        let at : g.port ≡ r.0 = ap (λ (k : FoundGap). k.port) h.1 in (
          ap (λ (k : FoundGap). k.instance) h.1,
          rw at (passes_gap 256 u c low z r.0 h.0),
          λ p l k. here_not z p (r.3 p (rw at at l)) k,
        )

    pub tells_none : first_gap_in u c ≡ None → TellsGaps u c None
    unfolding first_gap_in
    tells_none e z p g = of_none z (first_no (first_gap_at u c) z 256 e (gap_low 256 u c ok low z p g).0) p g

    pub tells_some : (g : FoundGap) → first_gap_in u c ≡ Some g → FirstGap u c g
    unfolding first_gap_in
    tells_some g e =
        let r = first_some (first_gap_at u c) 256 g e in
        let h = of_some r.0 g r.2 in
        record {
          gap = rw h.0 h.1;
          earlier = λ z p l k. of_none z (r.3 z (rw h.0 at l)) p k;
          lower = rw h.0 h.2;
        }

    pub tells : (r : Option FoundGap) → r ≡ first_gap_in u c → TellsGaps u c r
    tells None e = tells_none (sym e)
    tells (Some g) e = tells_some g (sym e)

    -- something is found exactly if the test of the whole finds a gap
    pub found_any : (r : Option FoundGap) → TellsGaps u c r → is_some r ≡ any_gap 256 u c
    found_any None free = sym ((search_law 256 u c ok low).1 free)
    found_any (Some g) first = sym (gap_found 256 u c ok low g.instance g.port first.gap)

-- what the search answers, in what is foreseen
pub told : (s : Situation) → Lawful s → (k : Prospect) (r : Option FoundGap) →
    r ≡ first_gap_in s.universe (foreseen k s.config) → TellsGaps s.universe (foreseen k s.config) r
told s law k r e = tells s.universe (foreseen k s.config) law.valid (foreseen_below 256 k s.config (lawful_below s law)) r e

-- and whether it answers anything
pub whole : (s : Situation) → Lawful s → (k : Prospect) (r : Option FoundGap) →
    r ≡ first_gap_in s.universe (foreseen k s.config) → is_some r ≡ any_gap 256 s.universe (foreseen k s.config)
whole s law k r e =
    found_any s.universe (foreseen k s.config) law.valid (foreseen_below 256 k s.config (lawful_below s law)) r (told s law k r e)
