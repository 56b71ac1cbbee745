-- The worked cases of lines and plans hold by computation.
use Rattle.std.proofs.Common.{refl}
use Rattle.model.specs.Search.{any, find_first, sum_below}
use Rattle.plans.specs.Lists.{lists_below}
use Rattle.plans.specs.Closing.{lacks, addable, next_pair, grown, closing}
use Rattle.plans.specs.Needs.{path_within, serves, needed_among}
use Rattle.plans.specs.Plan.{port_orders, step, walk, build, script_of}
use Rattle.plans.specs.Script.{script}
use Rattle.harbour.specs.Cases.{LineCases}
use Rattle.harbour.specs.Plans.{PlanCases}

pub line_cases : LineCases
line_cases =
    record { create = refl; created = refl; bind = refl; bound = refl; unbind = refl; unbound = refl; spare = refl; zero = refl }

pub plan_cases : PlanCases
unfolding any find_first sum_below lists_below lacks addable next_pair grown closing path_within serves needed_among port_orders step walk build script_of script
plan_cases = record { serving = refl; alone = refl; initial = refl }
