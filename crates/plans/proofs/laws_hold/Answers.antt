use Rattle.plans.proofs.Laws.{closing_law, end_law, lines_law, lower_law, needed_pairs_law, plan_law, reach_law, size_law, supplier_law, working_law}
use Rattle.plans.proofs.laws_hold.Goals as goal

pub returns : goal.returns
returns c =
    record { working = working_law; plan = plan_law; closing = closing_law; reach = reach_law; supplier = supplier_law; needed = needed_pairs_law; end = end_law; lower = lower_law; size = size_law; lines = lines_law }
