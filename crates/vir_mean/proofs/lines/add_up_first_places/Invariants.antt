use Rattle.std.proofs.Common.{◌≡◌, ◌+◌, ◌≤◌, ℕ, drop}
use Rattle.vir_altset.specs.Sets.{limit}
use Rattle.vir_profile.specs.Profiles.{first_weight}
use Rattle.vir_mean.specs.Numbers.{number_of}
use Rattle.vir_mean.proofs.lines.add_up_first_places.Given as goal

abbrev pub invariant-loop-line : goal.invariant-loop-line
invariant-loop-line l = (x : ℕ) → 1 ≤ x → x ≤ limit → number_of l.weights x + first_weight (drop l.line-index l.lines) x
    ≡ first_weight l.lines x
