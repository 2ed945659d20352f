use Rattle.std.proofs.Common.{◌∙◌, ap}
use Rattle.vir_mean.specs.Eliminators.{eliminated, goes}
use Rattle.vir_mean.specs.Numbers.{score_of}
use Rattle.vir_mean.proofs.EliminatedSplits.{goes_same, retain_same}
use Rattle.vir_mean.proofs.MeaningLaws.{eliminated-split}
use Rattle.vir_positional.proofs.scores.positional_split.Goals as goal

pub returns-clause-exact : goal.returns-clause-exact
returns-clause-exact g c =
    let d = c.args.domain.now in
    c.eliminate_by_scores.ensures
    ∙ ap (eliminated d) (retain_same d _ _ (goes_same _ _ d c.fill.ensures.each.each c.args.kind))

pub returns-clause-split : goal.returns-clause-split
returns-clause-split g c = rw c.eliminate_by_scores.ensures
    (eliminated-split c.args.domain.now (goes c.args.kind (score_of c.fill.new.scores) c.args.domain.now))
