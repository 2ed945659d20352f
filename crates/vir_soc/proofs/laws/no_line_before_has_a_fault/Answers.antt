use Rattle.vir_soc.proofs.FirstFaultLemmas.{lines_before_are_fine}
use Rattle.vir_soc.proofs.laws.no_line_before_has_a_fault.Goals as goal

pub returns : goal.returns
returns c = lines_before_are_fine
