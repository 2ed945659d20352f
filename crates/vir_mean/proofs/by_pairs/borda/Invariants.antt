use Rattle.std.proofs.Common.{◌≡◌, ◌+◌, ◌*◌, ◌^◌, ◌≤◌, drop}
use Rattle.vir_profile.specs.Profiles.{pairwise_weight}
use Rattle.vir_mean.proofs.by_pairs.borda.Given as goal
use Rattle.vir_mean.specs.Listings.{total}
use Rattle.vir_mean.proofs.PairScores.{others_in}

abbrev pub invariant-loop-y : goal.invariant-loop-y
invariant-loop-y g l = record {
  sum : l.sum + total (pairwise_weight (g.T.Tally.lines l.tally l.domain) l.x)
      (others_in l.x (drop l.y-index l.members)) ≡ total (pairwise_weight (g.T.Tally.lines l.tally l.domain) l.x)
      (others_in l.x l.members);
  small : l.sum ≤ l.y-index * 2 ^ 64;
}
