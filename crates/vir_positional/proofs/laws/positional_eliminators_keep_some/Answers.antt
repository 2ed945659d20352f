use Rattle.vir_positional.proofs.SplitLaws.{keep_some}
use Rattle.vir_positional.proofs.laws.positional_eliminators_keep_some.Goals as goal

pub returns : goal.returns
returns c = keep_some
