use Rattle.std.proofs.Common.{◌-◌, ◌∙◌, ap, arith, rules, get_or, pos}
use mir.Syntax.{w128}
use mir.Val.{SFits}
use Rattle.vir_mean.proofs.bounds.least_score.Goals as goal
use Rattle.vir_mean.specs.Numbers.{score_of}
use Rattle.vir_mean.specs.Extremes.{sunk}
use Rattle.vir_mean.proofs.MemberListings.{sunk_swaps}
use Rattle.vir_mean.proofs.PairScores.{fold_more}
use Rattle.vir_mean.proofs.ScoreSums.{backed}

pub loop-x-preserved : goal.loop-x-preserved
loop-x-preserved c =
    let scores = c.args.scores.now in
    let list = c.args.members.now in
    let i = c.loop-x.x-index in
    let fits : SFits w128 (get_or scores (c.from.result - 1) (pos 0)) = search rules in
    fold_more (λ x m. sunk m (score_of scores x)) (sunk_swaps (score_of scores)) c.loop-x.least _ _ list i (omega arith)
    (c.lesser_of-least.ensures ∙ ap (sunk c.loop-x.least) (backed _ fits ∙ ap (score_of scores) c.from.ensures))
    c.loop-x.invariant
