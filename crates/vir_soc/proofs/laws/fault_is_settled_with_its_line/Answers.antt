use Rattle.vir_soc.proofs.SettledLemmas.{settled_with_its_line}
use Rattle.vir_soc.proofs.laws.fault_is_settled_with_its_line.Goals as goal

pub returns : goal.returns
returns c = settled_with_its_line
