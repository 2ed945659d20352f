use Rattle.std.proofs.Common.{◌≡◌, take}
use Rattle.vir_profile.specs.Profiles.{restrict}
use Rattle.vir_mean.proofs.restriction.restricted_lines.Given as goal

abbrev pub invariant-loop-line : goal.invariant-loop-line
invariant-loop-line l = l.kept.items ≡ restrict l.domain (take l.line-index l.lines)
