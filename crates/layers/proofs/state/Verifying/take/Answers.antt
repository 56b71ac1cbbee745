use Rattle.layers.proofs.Relaying.{relayed_answers}
use Rattle.layers.proofs.state.Verifying.take.Goals as goal

pub returns-clause-answered : goal.returns-clause-answered
returns-clause-answered g c = relayed_answers _ _ _ _ _ _ (g.B.Host.sane _) c.relay.ensures.answered
