use Rattle.vir_mean.proofs.RenamedElections.{from_1_on}
use Rattle.vir_mean.proofs.laws.alternatives_are_numbers_from_1_on.Goals as goal

pub returns : goal.returns
returns c = from_1_on
