use Rattle.vir_positional.proofs.SplitLaws.{elects_nobody}
use Rattle.vir_positional.proofs.laws.positional_eliminators_elect_nobody.Goals as goal

pub returns : goal.returns
returns c = elects_nobody
