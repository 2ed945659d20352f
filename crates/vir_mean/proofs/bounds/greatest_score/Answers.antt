use Rattle.std.proofs.Common.{◌-◌, ◌∙◌, ap, arith, rules, get_or, pos}
use mir.Syntax.{w128}
use mir.Val.{SFits}
use Rattle.vir_mean.proofs.bounds.greatest_score.Goals as goal
use Rattle.vir_mean.specs.Numbers.{score_of}
use Rattle.vir_mean.specs.Extremes.{raised}
use Rattle.vir_mean.proofs.MemberListings.{raised_swaps}
use Rattle.vir_mean.proofs.PairScores.{fold_more}
use Rattle.vir_mean.proofs.ScoreSums.{backed}

pub loop-x-preserved : goal.loop-x-preserved
loop-x-preserved c =
    let scores = c.args.scores.now in
    let list = c.args.members.now in
    let i = c.loop-x.x-index in
    let fits : SFits w128 (get_or scores (c.from.result - 1) (pos 0)) = search rules in
    fold_more (λ x m. raised m (score_of scores x)) (raised_swaps (score_of scores)) c.loop-x.greatest _ _ list i
    (omega arith)
    (c.greater_of-greatest.ensures ∙ ap (raised c.loop-x.greatest) (backed _ fits ∙ ap (score_of scores)
    c.from.ensures)) c.loop-x.invariant
