use Rattle.std.proofs.Common.{◌≡◌, drop}
use Rattle.vir_mean.proofs.bounds.greatest_score.Given as goal
use Rattle.vir_mean.specs.Numbers.{score_of}
use Rattle.vir_mean.specs.Extremes.{fold, raised, greatest}

abbrev pub invariant-loop-x : goal.invariant-loop-x
invariant-loop-x l = fold (λ x m. raised m (score_of l.scores x)) l.greatest (drop l.x-index l.members)
    ≡ greatest (score_of l.scores) l.members
