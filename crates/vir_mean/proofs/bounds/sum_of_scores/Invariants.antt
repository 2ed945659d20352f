use Rattle.vir_mean.proofs.bounds.sum_of_scores.Given as goal
use Rattle.vir_mean.proofs.ScoreSums.{Added}

abbrev pub invariant-loop-x : goal.invariant-loop-x
invariant-loop-x l = Added l.scores l.members l.sum l.x-index
