use Rattle.vir_synth.proofs.FirstLemmas.{one_first}
use Rattle.vir_synth.proofs.laws.first_with_properties_is_unique.Goals as goal

pub returns : goal.returns
returns c = one_first
