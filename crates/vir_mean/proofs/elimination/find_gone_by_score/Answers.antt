use Rattle.std.proofs.Common.{◌∙◌}
use Rattle.vir_mean.proofs.EliminatedSplits.{goes_same, retain_same}
use Rattle.vir_mean.proofs.elimination.find_gone_by_score.Goals as goal

pub returns : goal.returns
returns g c = c.find_gone.ensures ∙ retain_same c.args.domain.now _ _
    (goes_same _ _ c.args.domain.now c.fill_scores.ensures.each.each c.args.kind)
