use Rattle.vir_mean.proofs.LiftedScores.{no_other_score_rises}
use Rattle.vir_mean.proofs.lift_laws.no_other_score_rises.Goals as goal

pub returns : goal.returns
returns c = no_other_score_rises
