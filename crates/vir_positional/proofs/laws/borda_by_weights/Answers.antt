use Rattle.vir_positional.proofs.NamedScores.{borda_by_weights}
use Rattle.vir_positional.proofs.laws.borda_by_weights.Goals as goal

pub returns : goal.returns
returns c = borda_by_weights
