use Rattle.pile_runs.proofs.Piles.{pile_covers_law, pile_ends_law, pile_runs_law, pile_start_law}
use Rattle.pile_runs.proofs.laws.laws_hold.Goals as goal

pub returns : goal.returns
returns c = record { start = pile_start_law; runs = pile_runs_law; covers = pile_covers_law; ends = pile_ends_law }
