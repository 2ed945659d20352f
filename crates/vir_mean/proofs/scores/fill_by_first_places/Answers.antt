use Rattle.std.proofs.Common.{arith}
use Rattle.vir_mean.proofs.scores.fill_by_first_places.Goals as goal
use Rattle.vir_mean.proofs.MemberLists.{scores_filled}

pub returns : goal.returns
returns g c = scores_filled _ _ c.loop-x.scores c.args.members.now c.loop-x.x-index c.requires.members (omega arith)
    (omega arith) c.loop-x.invariant
