use Rattle.vir_mean.proofs.LiftedScores.{moved_plurality, moved_borda, moved_copeland}
use Rattle.vir_mean.proofs.lift_laws.changed_score_raises_the_lifted.Goals as goal

pub returns : goal.returns
returns c = record { plurality = moved_plurality; borda = moved_borda; copeland = moved_copeland }
