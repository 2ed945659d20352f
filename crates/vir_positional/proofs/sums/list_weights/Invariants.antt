use Rattle.std.proofs.Common.{◌≡◌, ◌<◌, ℕ, length, get_or}
use Rattle.vir_altset.specs.Sets.{limit}
use Rattle.vir_positional.specs.Weights.{weight_of}
use Rattle.vir_positional.proofs.sums.list_weights.Given as goal

abbrev pub invariant-loop-place : goal.invariant-loop-place
invariant-loop-place g l = record {
  size : length l.weights ≡ limit;
  each : (i : ℕ) → i < l.place → get_or l.weights i 0 ≡ weight_of (g.W.Weighing.kept l.rule) i l.places;
}
