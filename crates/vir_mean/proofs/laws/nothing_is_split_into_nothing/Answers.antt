use Rattle.vir_mean.proofs.MeaningLaws.{mean-empty}
use Rattle.vir_mean.proofs.laws.nothing_is_split_into_nothing.Goals as goal

pub returns : goal.returns
returns c = mean-empty
