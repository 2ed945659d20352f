use Rattle.std.proofs.Common.{◌≡◌, ◌+◌, drop}
use Rattle.vir_profile.specs.Profiles.{first_weight}
use Rattle.vir_mean.proofs.lines.first_weight.Given as goal

abbrev pub invariant-loop-line : goal.invariant-loop-line
invariant-loop-line l = l.sum + first_weight (drop l.line-index l.lines) l.x ≡ first_weight l.lines l.x
