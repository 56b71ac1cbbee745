use Rattle.std.proofs.Common.{not, ◌&&◌, sym, ap, ◌∙◌}
use Rattle.universe.specs.Held.{universe_in}
use Rattle.plans.specs.Closing.{lacks}
use Rattle.closing.specs.Listing.{pairs_of}
use Rattle.closing.proofs.Tracking.{addable_told}
use Rattle.closing.proofs.listing.Listing.is_addable.Goals as goal

pub returns-then-has : goal.returns-then-has
returns-then-has c =
    let u = universe_in c.args.universe.now in
    let l = pairs_of c.args.self.now in
    ap not c.lacks.ensures
    ∙ ap (λ b. b && not (lacks u l c.args.pair)) (sym c.if-has.true ∙ (rw c.from.ensures at c.has.ensures))
    ∙ addable_told u l c.args.pair.kind c.args.waiting c.requires.waits c.args.pair.state

pub returns-else-has : goal.returns-else-has
returns-else-has c =
    let u = universe_in c.args.universe.now in
    let l = pairs_of c.args.self.now in
    c.if-has.false
    ∙ ap (λ b. b && not (lacks u l c.args.pair)) (sym c.if-has.false ∙ (rw c.from.ensures at c.has.ensures))
    ∙ addable_told u l c.args.pair.kind c.args.waiting c.requires.waits c.args.pair.state
