use Rattle.std.proofs.Common.{◌≡◌, ◌<◌, ℕ, get_or}
use Rattle.vir_mean.specs.Numbers.{score_of}
use Rattle.vir_profile.specs.Profiles.{restrict}
use Rattle.vir_positional.specs.Positional.{positional}
use Rattle.vir_positional.proofs.scores.fill.Given as goal

abbrev pub invariant-loop-x : goal.invariant-loop-x
invariant-loop-x g l = (k : ℕ) → k < l.x-index
    → score_of l.scores (get_or l.members k 0) ≡ positional (g.W.Weighing.kept l.rule) l.domain
    (restrict l.domain l.election.profile.lines) (get_or l.members k 0)
