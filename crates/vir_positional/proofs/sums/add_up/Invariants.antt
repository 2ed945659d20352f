use Rattle.std.proofs.Common.{◌≡◌, ◌+◌, ℕ, true, length, drop}
use Rattle.std.specs.FinSet as set
use Rattle.vir_altset.specs.Sets.{limit}
use Rattle.vir_mean.specs.Numbers.{number_of}
use Rattle.vir_profile.specs.Profiles.{restrict}
use Rattle.vir_positional.specs.Positional.{weighed}
use Rattle.vir_positional.specs.Weights.{weight_of}
use Rattle.vir_positional.proofs.sums.add_up.Given as goal

abbrev pub invariant-loop-i : goal.invariant-loop-i
invariant-loop-i g l = record {
  size : length l.sums ≡ limit;
  sums : (x : ℕ) → set.contains l.domain x ≡ true
      → number_of l.sums x + weighed (λ i. weight_of (g.W.Weighing.kept l.rule) i (set.len l.domain))
      (restrict l.domain (drop l.i l.election.profile.lines)) x
      ≡ weighed (λ i. weight_of (g.W.Weighing.kept l.rule) i (set.len l.domain))
      (restrict l.domain l.election.profile.lines) x;
}
