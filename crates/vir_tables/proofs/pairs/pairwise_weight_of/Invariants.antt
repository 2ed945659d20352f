use Rattle.std.proofs.Common.{◌≡◌, ◌+◌, drop}
use Rattle.vir_profile.specs.Profiles.{pairwise_weight}
use Rattle.vir_tables.proofs.pairs.pairwise_weight_of.Given as goal

abbrev pub invariant-loop-line : goal.invariant-loop-line
invariant-loop-line l = l.weight + pairwise_weight (drop l.line-index l.lines) l.x l.y ≡ pairwise_weight l.lines l.x l.y
