use Rattle.std.proofs.Common.{◌≢◌, ℕ, ◌<◌, ◌≤◌}
use Rattle.vir_profile.specs.Profiles.{pairwise_weight}
use Rattle.vir_refute.proofs.winner.is_winner.Given as goal

abbrev pub invariant-loop-y : goal.invariant-loop-y
invariant-loop-y l = (y : ℕ) → 1 ≤ y → y < l.y → y ≢ l.x → pairwise_weight l.profile.lines y l.x < pairwise_weight
    l.profile.lines l.x y
