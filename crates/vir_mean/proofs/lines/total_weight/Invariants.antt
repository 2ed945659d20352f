use Rattle.std.proofs.Common.{◌≡◌, ◌+◌, drop}
use Rattle.vir_profile.specs.Profiles.{total_weight}
use Rattle.vir_mean.proofs.lines.total_weight.Given as goal

abbrev pub invariant-loop-line : goal.invariant-loop-line
invariant-loop-line l = l.sum + total_weight (drop l.line-index l.lines) ≡ total_weight l.lines
