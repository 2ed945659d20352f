use Rattle.vir_mean.proofs.StillScores.{minimax_may_stay, condorcet_may_stay}
use Rattle.vir_mean.proofs.lift_laws.changed_score_may_leave_the_lifted.Goals as goal

pub returns : goal.returns
returns c = record { minimax = minimax_may_stay; condorcet = condorcet_may_stay }
