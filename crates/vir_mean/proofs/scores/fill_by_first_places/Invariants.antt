use Rattle.std.proofs.Common.{◌≡◌, ◌<◌, ℕ, get_or}
use Rattle.vir_mean.proofs.scores.fill_by_first_places.Given as goal
use Rattle.vir_mean.specs.Numbers.{score_of}
use Rattle.vir_mean.specs.Scores.{score}
use Rattle.vir_term.specs.declared.score.Score.TheVariants.{Plurality}

abbrev pub invariant-loop-x : goal.invariant-loop-x
invariant-loop-x g l = (k : ℕ) → k < l.x-index → score_of l.scores (get_or l.members k 0) ≡ score Plurality l.domain
    (g.T.Tally.lines l.tally l.domain) (get_or l.members k 0)
