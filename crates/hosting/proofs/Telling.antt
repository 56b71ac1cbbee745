-- The text about orders, one order after the other. Assumes nothing.
use Rattle.std.proofs.Common.{◌≡◌, ℕ, List, [], ◌∷◌, ◌++◌, sym, refl, ap, ◌∙◌, append_assoc, append-nil}
use Rattle.model.specs.declared.order.Order.{Order}
use Rattle.hosts.specs.Answers.{Answer}
use Rattle.hosts.specs.Service.{Service}
use Rattle.hosts.specs.Survey.{Situation}
use Rattle.hosting.specs.Hosting.{Told, ToldAll}

module _ {H : Type 0} (s : H → Situation) (v : H → Service) (does : Order → H → H → Answer → Type 0) where
  -- one order more at the end
  told_push : (os : List Order) (o : Order) (h k n : H) (text line : List ℕ) →
      ToldAll s v does os h k text → Told s v does o k n line → ToldAll s v does (os ++ (o ∷ [])) h n (text ++ line)
  told_push [] o h k n text line a t =
      let t' : Told s v does o h n line = rw a.0 at t in
      (n, line, [], t', (refl, refl), ap (λ bs. bs ++ line) a.1 ∙ sym (append-nil line))
  told_push (p ∷ os) o h k n text line a t =
      (a.0, a.1, a.2 ++ line, a.3, told_push os o a.0 k n a.2 line a.4 t, ap (λ bs. bs ++ line) a.5 ∙ append_assoc a.1 a.2 line)

  pub told_more : (os qs : List Order) (o : Order) (h k n : H) (before after line piece : List ℕ) →
      ToldAll s v does os h k before → Told s v does o k n line → qs ≡ os ++ (o ∷ []) → after ≡ before ++ piece → piece ≡ line →
      ToldAll s v does qs h n after
  told_more os qs o h k n before after line piece a t e f p = rw (e, f, p) (told_push os o h k n before line a t)
