use Rattle.vir_rules.proofs.Names.{same_name}
use Rattle.vir_rules.proofs.laws.names_of_rules_differ.Goals as goal

pub returns : goal.returns
returns c = λ rule other some few some' few' same. same_name rule other few few' same
