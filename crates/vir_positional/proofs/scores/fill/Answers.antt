use Rattle.std.proofs.Common.{arith}
use Rattle.vir_mean.proofs.MemberLists.{scores_filled}
use Rattle.vir_positional.proofs.WeighedLines.{natural_score}
use Rattle.vir_positional.proofs.scores.fill.Goals as goal

pub returns-clause-each : goal.returns-clause-each
returns-clause-each g c = scores_filled _ _ c.loop-x.scores c.args.members.now c.loop-x.x-index c.requires.members
    (omega arith) (omega arith) c.loop-x.invariant

pub returns-clause-small : goal.returns-clause-small
returns-clause-small g c =
    let each = scores_filled _ _ c.loop-x.scores c.args.members.now c.loop-x.x-index c.requires.members (omega arith)
    (omega arith) c.loop-x.invariant in
    record {
      each = λ x inside. natural_score _ _ _ (each.each x inside) (c.add_up.ensures.sums x inside)
          (c.add_up.ensures.small x inside);
    }
