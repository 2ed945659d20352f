use Rattle.vir_mean.proofs.LiftedScores.{lifted_leader_by_condorcet_score}
use Rattle.vir_mean.proofs.lift_laws.lifted_leader_by_condorcet_score.Goals as goal

pub returns : goal.returns
returns c = lifted_leader_by_condorcet_score
