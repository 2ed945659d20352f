use Rattle.std.proofs.Common.{◌≡◌, drop}
use Rattle.vir_mean.proofs.bounds.least_score.Given as goal
use Rattle.vir_mean.specs.Numbers.{score_of}
use Rattle.vir_mean.specs.Extremes.{fold, sunk, smallest}

abbrev pub invariant-loop-x : goal.invariant-loop-x
invariant-loop-x l = fold (λ x m. sunk m (score_of l.scores x)) l.least (drop l.x-index l.members)
    ≡ smallest (score_of l.scores) l.members
