-- What would be covered, by counts of what covers it now. Assumes nothing.
use Rattle.std.proofs.Common.{◌≡◌, ℕ, ◌+◌, ◌<◌, ◌≤◌, true, false, ltb, ◌≢◌, Some, sym, refl, ◌∙◌, inl, inr, arith}
use mathlib.Core.Bool.{and_comm}
use Rattle.std.proofs.lemmas.Bool.{and_from, and_parts, cases_Bool, cases_lt, le-ltb, lt-ltb, or_left}
use Rattle.model.specs.Search.{one}
use Rattle.model.specs.Universe.{Universe}
use Rattle.model.specs.Config.{Config, provided}
use Rattle.model.specs.Bounded.{Below, covered, covers}
use Rattle.model.proofs.Searches.{refuted}
use Rattle.model.proofs.Results.{change_bound, change_off, unbind_inst, unbind_off}
use Rattle.model.proofs.GapSearch.{covers as is_cover}
use Rattle.model.proofs.Covering.{covered_count, covering, covers_moved, covers_same}
use Rattle.hosts.specs.Survey.{Lawful, Situation}
use Rattle.hosts.proofs.Offending.{lawful_below}
use Rattle.rules.specs.declared.gaps.Prospect.{Prospect}
use Rattle.rules.specs.declared.gaps.Prospect.TheVariants.{Present, Changed, Unbound}
use Rattle.rules.specs.Finding.{covered_by_count, foreseen, mover}
use Rattle.rules.proofs.Foreseeing.{foreseen_below}

-- whoever is not the mover covers what it covered
off_mover : (k : Prospect) (u : Universe) (c : Config) (x : ℕ) → ((m : ℕ) → mover k ≡ Some m → x ≢ m) → (z p : ℕ) →
    covering u (foreseen k c) z p x ≡ covering u c z p x
off_mover Present u c x ne z p = refl
off_mover (Changed z' q) u c x ne z p = rw (change_bound c z' q p x z, change_off c z' q x (ne z' refl))
off_mover (Unbound b) u c x ne z p = rw (unbind_inst c b x, unbind_off c b p x z (λ e. ne b.provider refl e.1))

-- a number from 256 on covers nothing
covers_low : (u : Universe) (c : Config) → Below 256 c → (z p x : ℕ) → covering u c z p x ≡ true → x < 256
covers_low u c low z p x e = (low.bound p x z (and_parts (c.bound p x z) _ e).0).0

none_high : (u : Universe) (c : Config) → Below 256 c → (z p x : ℕ) → 256 ≤ x → covering u c z p x ≡ false
none_high u c low z p x g = refuted _ (λ e. let l = covers_low u c low z p x e in absurd (omega arith))

-- more than j of n, where m and j are n
over : (m j n : ℕ) → m + j ≡ n → ltb j n ≡ ltb 0 m
over m j n e =
    elim (cases_lt 0 m) [
      | inl l ↦ rw (lt-ltb 0 m l, lt-ltb j n (omega arith))
      | inr g ↦ rw (le-ltb 0 m g, le-ltb j n (omega arith))
    ]

module _ (s : Situation) (law : Lawful s) (k : Prospect) (x : ℕ) (is : mover k ≡ Some x) where
  abbrev u : Universe
  u = s.universe

  abbrev c : Config
  c = s.config

  abbrev d : Config
  d = foreseen k c

  low : Below 256 d
  low = foreseen_below 256 k c (lawful_below s law)

  others : (z p y : ℕ) → y ≢ x → covering u d z p y ≡ covering u c z p y
  others z p y ne = off_mover k u c y (λ m e. let same : x ≡ m = cc in λ f. ne (f ∙ sym same)) z p

  -- the mover alone makes the difference
  pub covers_foreseen : (z p : ℕ) → covers 256 u d z p + one (covering u c z p x) ≡ covers 256 u c z p + one (covering u d z p x)
  covers_foreseen z p =
      elim (cases_lt x 256) [
        | inl l ↦ covers_moved 256 u c d z p x l (others z p)
        | inr g ↦
            let same = covers_same 256 u c d z p (λ y l. others z p y (λ e. absurd (omega arith))) in
            rw (same, none_high u c (lawful_below s law) z p x g, none_high u d low z p x g)
      ]

  -- it is covered if the mover covers it, or somebody besides it
  moved_covered : (z p : ℕ) → covered_by_count (Some x) k s p z ≡ covered 256 u d z p
  moved_covered z p =
      elim (cases_Bool (covering u d z p x)) [
        | inl does ↦
            let w = and_parts (d.bound p x z) _ does in
            or_left _ _ (and_from _ _ w.1 w.0) ∙ sym (is_cover 256 u d z p x (covers_low u d low z p x does) w.0 w.1)
        | inr not_it ↦
            let m = rw not_it at (covers_foreseen z p) in
            rw (and_comm (provided u p (d.inst x)) (d.bound p x z), not_it, and_comm (provided u p (c.inst x)) (c.bound p x z))
            (over (covers 256 u d z p) (one (covering u c z p x)) (covers 256 u c z p) (omega arith) ∙ sym (covered_count 256 u d z p))
      ]

-- what is told by counts is what would be covered
pub count_covered : (s : Situation) → Lawful s → (k : Prospect) (p z : ℕ) → covered_by_count (mover k) k s p z ≡ covered 256 s.universe (foreseen k s.config) z p
count_covered s law Present p z = sym (covered_count 256 s.universe s.config z p)
count_covered s law (Changed z' q) p z = moved_covered s law (Changed z' q) z' refl z p
count_covered s law (Unbound b) p z = moved_covered s law (Unbound b) b.provider refl z p
