use Rattle.std.proofs.Common.{sym, ap, ◌∙◌}
use Rattle.universe.proofs.Sounds.{sound}
use Rattle.cloud.specs.declared.state.Cloud.{Cloud}
use Rattle.cloud.specs.Cloud.{cloud_of}
use Rattle.layers.specs.declared.state.Verifying.{Verifying as Layer}
use Rattle.piles.specs.Piles.{pile_of}
use Rattle.piles.proofs.Piling.{cloud_is, layer_is}
use Rattle.pile_runs.proofs.Telling.{request_told}
use Rattle.pile_runs.proofs.command.pile_run.Goals as goal

pub returns-in-None : goal.returns-in-None
returns-in-None c =
    request_told _ _ _ _ _ cloud_is _ c.args.options c.args.request _ _ c.args.steps _ (sound c.args.universe.tables c.args.universe.sound).valid (ap pile_of (sym c.in-None.is)) c.fresh_cloud-cloud.ensures c.run_steps.ensures

pub returns-in-Verifying : goal.returns-in-Verifying
returns-in-Verifying c =
    request_told _ _ _ _ _ (layer_is _ _ _ _ _ cloud_is (λ (v : Layer Cloud _ _). v.below)) _ c.args.options c.args.request _ _ c.args.steps _ (sound c.args.universe.tables c.args.universe.sound).valid
    (ap pile_of (sym c.in-Verifying.is)) (ap cloud_of c.over.ensures ∙ c.fresh_cloud-cloud.ensures) c.run_steps-in-Verifying.ensures

pub returns-in-VerifyingTwice : goal.returns-in-VerifyingTwice
returns-in-VerifyingTwice c =
    request_told _ _ _ _ _ (layer_is _ _ _ _ _ (layer_is _ _ _ _ _ cloud_is (λ (v : Layer Cloud _ _). v.below)) (λ (v : Layer (Layer Cloud _ _) _ _). v.below)) _ c.args.options c.args.request _ _ c.args.steps _ (sound c.args.universe.tables c.args.universe.sound).valid
    (ap pile_of (sym c.in-VerifyingTwice.is)) (ap cloud_of (ap (λ (v : Layer Cloud _ _). v.below) c.over-in-VerifyingTwice-2.ensures ∙ c.over-in-VerifyingTwice.ensures) ∙ c.fresh_cloud-cloud.ensures) c.run_steps-in-VerifyingTwice.ensures
