use Rattle.std.proofs.Common.{◌<◌, ◌^◌, ◌∙◌, ap, arith}
use Rattle.vir_mean.specs.Eliminators.{eliminated}
use Rattle.vir_mean.proofs.EliminatedSplits.{goes_same, retain_same}
use Rattle.vir_mean.proofs.ScoreSizes.{all_small}
use Rattle.vir_profile.specs.Profiles.{restrict, total_weight}
use Rattle.vir_score.proofs.elimination.eliminate.Goals as goal

pub eliminate_by_scores-requires-clause-small : goal.eliminate_by_scores-requires-clause-small
eliminate_by_scores-requires-clause-small g c =
    let lines = restrict c.args.domain.now c.args.election.now.profile.lines in
    let few : total_weight lines < 2 ^ 64 = omega (arith, c.voters-voters.ensures) in
    all_small (g.S.Scoring.named c.args.scoring.now) c.args.domain.now lines _ _ few
    c.list_members-count.ensures.members c.fill.ensures

pub returns : goal.returns
returns g c =
    let domain = c.args.domain.now in
    c.eliminate_by_scores.ensures ∙ ap (eliminated domain)
    (retain_same domain _ _ (goes_same _ _ domain c.fill.ensures.each c.args.kind))
