use Rattle.std.proofs.Common.{◌≡◌, ◌+◌, ◌≤◌, ℕ, drop}
use Rattle.vir_altset.specs.Sets.{limit}
use Rattle.vir_mean.specs.Numbers.{number_of}
use Rattle.vir_profile.specs.Profiles.{first_weight, restrict}
use Rattle.vir_tables.proofs.first_places.first_weights_of.Given as goal

abbrev pub invariant-loop-line : goal.invariant-loop-line
invariant-loop-line l = (x : ℕ) → 1 ≤ x → x ≤ limit
    → number_of l.weights x + first_weight (restrict l.domain (drop l.line-index l.lines)) x
    ≡ first_weight (restrict l.domain l.lines) x
