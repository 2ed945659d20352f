use Rattle.std.proofs.Common.{◌≡◌, ◌<◌, ℕ, get_or}
use Rattle.vir_mean.proofs.scores.fill_each.Given as goal
use Rattle.vir_mean.specs.Numbers.{score_of}
use Rattle.vir_mean.specs.Scores.{score}

abbrev pub invariant-loop-x : goal.invariant-loop-x
invariant-loop-x g l = (k : ℕ) → k < l.x-index → score_of l.scores (get_or l.members k 0) ≡ score l.named l.domain
    (g.T.Tally.lines l.tally l.domain) (get_or l.members k 0)
