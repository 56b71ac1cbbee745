use Rattle.std.proofs.Common.{ap, ◌∙◌, rules}
use Rattle.universe.specs.Held.{universe_in}
use Rattle.cloud.specs.declared.state.Cloud.{Cloud}
use Rattle.cloud.specs.Cloud.{cloud_of}
use Rattle.layers.specs.declared.state.Verifying.{Verifying as Layer}
use Rattle.sengoruwa_c.proofs.Layered.{ran_none, ran_one, ran_two}
use Rattle.sengoruwa_c.proofs.calls.run_fresh.Goals as goal

pub returns-in-0-clause-ran : goal.returns-in-0-clause-ran
returns-in-0-clause-ran c =
    ran_none (universe_in c.args.universe) c.args.settings c.args.lines.now c.args.answers.now c.run_on.new.answers c.args.standing.now c.run_on.new.standing c.run_on.result
    c.open_cloud-cloud.result c.run_on.new.host c.in-0.is c.open_cloud-cloud.ensures c.run_on.ensures.ran

pub returns-in-1-clause-ran : goal.returns-in-1-clause-ran
returns-in-1-clause-ran c =
    ran_one (universe_in c.args.universe) c.args.settings c.args.lines.now c.args.answers.now c.run_on-in-1.new.answers c.args.standing.now c.run_on-in-1.new.standing c.run_on-in-1.result
    (λ (k : Layer Cloud _ _). k.below) c.over.result c.run_on-in-1.new.host c.in-1.is (ap cloud_of c.over.ensures ∙ c.open_cloud-cloud.ensures) c.run_on-in-1.ensures.ran

pub returns-in_default-clause-ran : goal.returns-in_default-clause-ran
returns-in_default-clause-ran c =
    ran_two (universe_in c.args.universe) c.args.settings c.args.lines.now c.args.answers.now c.run_on-in_default.new.answers c.args.standing.now c.run_on-in_default.new.standing c.run_on-in_default.result
    (λ (k : Layer Cloud _ _). k.below) (λ (k : Layer (Layer Cloud _ _) _ _). k.below) c.over-in_default-2.result c.run_on-in_default.new.host (search rules) (search rules)
    (ap cloud_of (ap (λ (k : Layer Cloud _ _). k.below) c.over-in_default-2.ensures ∙ c.over-in_default.ensures) ∙ c.open_cloud-cloud.ensures) c.run_on-in_default.ensures.ran
