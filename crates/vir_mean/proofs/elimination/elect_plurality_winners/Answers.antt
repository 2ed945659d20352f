use Rattle.vir_mean.proofs.EliminatedSplits.{winners_split}
use Rattle.vir_mean.specs.Eliminators.{is_passed}
use Rattle.vir_mean.specs.Scores.{plurality_score}
use Rattle.vir_mean.proofs.elimination.elect_plurality_winners.Goals as goal

pub returns : goal.returns
returns g c =
    let domain = c.args.domain.now in
    winners_split domain (is_passed (plurality_score (g.T.Tally.lines c.args.tally.now domain)) domain) _ _ _
    c.empty.ensures c.minus.ensures c.find_gone_by_score-passed.ensures
