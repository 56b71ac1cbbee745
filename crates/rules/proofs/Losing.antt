-- What is uncovered, by the set of the ports that are lost. Assumes nothing.
use Rattle.std.proofs.Common.{◌≡◌, ℕ, Bool, false, ◌&&◌, ap, sym, ◌∙◌}
use mathlib.Core.Path.{fun_ext}
use Rattle.std.proofs.lemmas.Bool.{and_parts, both_ways}
use Rattle.model.specs.Search.{any}
use Rattle.model.specs.Config.{required}
use Rattle.model.proofs.Searches.{any_none_of}
use Rattle.universe.specs.Sets.{has}
use Rattle.hosts.specs.Survey.{Situation}
use Rattle.rules.specs.declared.gaps.Prospect.{Prospect}
use Rattle.rules.specs.Opening.{Loses, after, alone, loses, uncovers}
use Rattle.rules.proofs.Masks.{has_none}

-- the required ones of the lost ports that one alone covers are uncovered
pub uncovers_any : (k : Prospect) (s : Situation) (z lost y set n : ℕ) → Loses k s z lost →
    ((p : ℕ) → has 32 set p ≡ (required s.universe p (after k s y) && has 32 lost p)) →
    any (λ p. has 32 set p && alone s p z y) n ≡ any (uncovers k s z y) n
uncovers_any k s z lost y set n l h = ap (λ f. any f n) (fun_ext (λ p. rw (h p, l.ports p)))

-- in no set nothing is found
pub none_in : (f : ℕ → Bool) (n : ℕ) → any (λ p. has 32 0 p && f p) n ≡ false
none_in f n = any_none_of _ n (λ p _ e. both_ways (has 32 0 p) (has_none p) (and_parts (has 32 0 p) _ e).0)

-- who loses nothing uncovers nothing
pub loses_none : (k : Prospect) (s : Situation) (z m n : ℕ) → Loses k s z 0 → any (λ y. any (uncovers k s z y) m) n ≡ false
loses_none k s z m n l =
    any_none_of _ n (λ y _ e.
    both_ways (any (uncovers k s z y) m) (any_none_of _ m (λ p _ f.
    let a = and_parts (required s.universe p (after k s y) && loses k s z p) (alone s p z y) f in
    both_ways (loses k s z p) (sym (l.ports p) ∙ has_none p) (and_parts (required s.universe p (after k s y)) _ a.0).1)) e)
