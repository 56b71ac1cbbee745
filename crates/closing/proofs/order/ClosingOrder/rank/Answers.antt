use Rattle.std.proofs.Common.{ap, ◌∙◌}
use Rattle.std.specs.List.{position}
use Rattle.std.specs.Option.{unwrap_or}
use Rattle.closing.proofs.Lookups.{rank_found}
use Rattle.closing.proofs.order.ClosingOrder.rank.Goals as goal

pub returns : goal.returns
returns c =
    c.unwrap_or.ensures
    ∙ ap (λ found. unwrap_or found c.args.self.now.len) (c.place_of.ensures ∙ ap (position _) c.pairs.ensures)
    ∙ rank_found c.args.self.now c.args.pair
