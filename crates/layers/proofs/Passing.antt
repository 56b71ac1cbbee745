-- What the layer knows of gaps after an order that it passed on. Assumes nothing.
use Rattle.std.proofs.Common.{◌≡◌, Bool, true, false, ◌&&◌, ◌||◌, Ok, sym, refl}
use Rattle.model.proofs.GapSearch.{search_law}
use Rattle.model.specs.declared.order.Order.{Order}
use Rattle.hosts.specs.Survey.{Lawful, has_gap}
use Rattle.hosts.specs.Answers.{Answered, Meaning, is_tested}
use Rattle.hosts.proofs.Offending.{lawful_below}
use Rattle.hosts.proofs.Watching.{watchful_law}

-- a watchful host has done the order: where it was known to be gap-free, or the order was tested, it is gap-free
pub gap_free_after : (o : Order) (m n : Meaning) (known tested : Bool) → Lawful m.situation → Lawful n.situation → m.service.profile.watchful ≡ true →
    tested ≡ is_tested o → (known && has_gap m.situation) ≡ false → Answered o m n (Ok tt) → ((known || tested) && has_gap n.situation) ≡ false
gap_free_after o m n known tested law law' w is was a = by known tested is was
  where
    by : (b t : Bool) → t ≡ is_tested o → (b && has_gap m.situation) ≡ false → ((b || t) && has_gap n.situation) ≡ false
    by true t e f =
        (search_law 256 n.situation.universe n.situation.config law'.valid (lawful_below n.situation law')).1
        ((watchful_law o m n (Ok tt) law w a).0 ((search_law 256 m.situation.universe m.situation.config law.valid (lawful_below m.situation law)).0 f))
    by false true e f =
        (search_law 256 n.situation.universe n.situation.config law'.valid (lawful_below n.situation law')).1
        ((watchful_law o m n (Ok tt) law w a).1 refl (sym e))
    by false false e f = refl
