use Rattle.std.proofs.Common.{sym, ap, ◌∙◌}
use Rattle.cloud.specs.declared.state.Cloud.{Cloud}
use Rattle.cloud.specs.Cloud.{cloud_of}
use Rattle.layers.specs.declared.state.Verifying.{Verifying as Layer}
use Rattle.piles.specs.Piles.{pile_of}
use Rattle.piles.proofs.Piling.{cloud_is, fresh_report, layer_is}
use Rattle.piles.proofs.pile_report.Goals as goal

pub returns-in-None : goal.returns-in-None
returns-in-None c =
    let a = fresh_report _ _ _ _ _ cloud_is _ _ c.args.options _ _ _ (ap pile_of (sym c.in-None.is)) c.fresh_cloud-cloud.ensures c.host_report.ensures in
    record { exact = a.0; reported = a.1 }

pub returns-in-Verifying : goal.returns-in-Verifying
returns-in-Verifying c =
    let a = fresh_report _ _ _ _ _ (layer_is _ _ _ _ _ cloud_is (λ (v : Layer Cloud _ _). v.below)) _ _ c.args.options _ _ _ (ap pile_of (sym c.in-Verifying.is)) (ap cloud_of c.over.ensures ∙ c.fresh_cloud-cloud.ensures) c.host_report-in-Verifying.ensures in
    record { exact = a.0; reported = a.1 }

pub returns-in-VerifyingTwice : goal.returns-in-VerifyingTwice
returns-in-VerifyingTwice c =
    let a = fresh_report _ _ _ _ _ (layer_is _ _ _ _ _ (layer_is _ _ _ _ _ cloud_is (λ (v : Layer Cloud _ _). v.below)) (λ (v : Layer (Layer Cloud _ _) _ _). v.below)) _ _ c.args.options _ _ _ (ap pile_of (sym c.in-VerifyingTwice.is)) (ap cloud_of (ap (λ (v : Layer Cloud _ _). v.below) c.over-in-VerifyingTwice-2.ensures ∙ c.over-in-VerifyingTwice.ensures) ∙ c.fresh_cloud-cloud.ensures) c.host_report-in-VerifyingTwice.ensures in
    record { exact = a.0; reported = a.1 }
