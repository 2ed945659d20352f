use Rattle.std.proofs.Common.{◌≡◌, None, drop}
use Rattle.vir_profile.specs.Profiles.{pairwise_weight}
use Rattle.vir_mean.proofs.by_pairs.minimax.Given as goal
use Rattle.vir_mean.specs.Extremes.{fold}
use Rattle.vir_mean.proofs.MemberListings.{lower}
use Rattle.vir_mean.proofs.PairScores.{others_in}

abbrev pub invariant-loop-y : goal.invariant-loop-y
invariant-loop-y g l = fold (lower (pairwise_weight (g.T.Tally.lines l.tally l.domain) l.x)) l.least
    (others_in l.x (drop l.y-index l.members)) ≡ fold (lower (pairwise_weight (g.T.Tally.lines l.tally l.domain) l.x))
    None (others_in l.x l.members)
