use Rattle.std.proofs.Common.{◌≡◌, map, take}
use Rattle.vir_samples.specs.Samples.{line_of}
use Rattle.vir_samples.proofs.votes.profile_of.Given as goal

-- the profile has the lines of the first votes
abbrev pub invariant-loop-weight : goal.invariant-loop-weight
invariant-loop-weight l = record {
  three : l.profile.alternatives ≡ 3;
  lines : l.profile.lines ≡ map line_of (take l.weight-index l.votes);
}
