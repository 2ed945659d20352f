use Rattle.vir_soc.proofs.CountLemmas.{counts_agree}
use Rattle.vir_soc.proofs.laws.metadata_is_true.Goals as goal

pub returns : goal.returns
returns c = counts_agree
