use Rattle.std.proofs.Common.{◌≡◌, ◌+◌, drop}
use Rattle.vir_profile.specs.Profiles.{first_weight, restrict}
use Rattle.vir_tables.proofs.first_places.first_weight_of.Given as goal

abbrev pub invariant-loop-line : goal.invariant-loop-line
invariant-loop-line l = l.weight + first_weight (restrict l.domain (drop l.line-index l.lines)) l.x
    ≡ first_weight (restrict l.domain l.lines) l.x
