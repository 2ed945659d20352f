use Rattle.vir_mean.proofs.LiftedScores.{lifted_score_never_falls}
use Rattle.vir_mean.proofs.lift_laws.lifted_score_never_falls.Goals as goal

pub returns : goal.returns
returns c = lifted_score_never_falls
