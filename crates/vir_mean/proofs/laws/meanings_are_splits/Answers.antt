use Rattle.vir_mean.proofs.MeaningLaws.{mean-split}
use Rattle.vir_mean.proofs.laws.meanings_are_splits.Goals as goal

pub returns : goal.returns
returns c = mean-split
