use Rattle.vir_rules.proofs.ReasonLaws.{one_list_of_reasons}
use Rattle.vir_rules.proofs.laws.reasons_are_unique.Goals as goal

pub returns : goal.returns
returns c = one_list_of_reasons
