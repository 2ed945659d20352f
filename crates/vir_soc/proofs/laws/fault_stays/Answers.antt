use Rattle.vir_soc.proofs.StandLemmas.{fault_stays}
use Rattle.vir_soc.proofs.laws.fault_stays.Goals as goal

pub returns : goal.returns
returns c = fault_stays
