use Rattle.vir_rules.proofs.Firsts.{first_unique}
use Rattle.vir_rules.proofs.laws.first_derivation_is_unique.Goals as goal

pub returns : goal.returns
returns c = first_unique
