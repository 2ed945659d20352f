use Rattle.std.proofs.Common.{◌≡◌, ℕ, ◌<◌, ◌≤◌}
use Rattle.vir_altset.specs.Sets.{all}
use Rattle.vir_profile.specs.Winners.{IsCondorcetWinner}
use Rattle.vir_refute.proofs.winner.only_candidate.Given as goal

abbrev pub invariant-loop-y : goal.invariant-loop-y
invariant-loop-y l = record {
  some : 1 ≤ l.candidate;
  before : l.candidate < l.y;
  within : l.candidate ≤ l.profile.alternatives;
  only : (w : ℕ) → w < l.y → IsCondorcetWinner w (all l.profile.alternatives) l.profile.lines → w ≡ l.candidate;
}
