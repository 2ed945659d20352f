use Rattle.vir_positional.proofs.NamedScores.{plurality_by_weights}
use Rattle.vir_positional.proofs.laws.plurality_by_weights.Goals as goal

pub returns : goal.returns
returns c = plurality_by_weights
