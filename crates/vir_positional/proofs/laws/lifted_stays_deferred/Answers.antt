use Rattle.vir_positional.proofs.SplitLaws.{stays_deferred}
use Rattle.vir_positional.proofs.laws.lifted_stays_deferred.Goals as goal

pub returns : goal.returns
returns c = stays_deferred
