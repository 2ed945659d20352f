use Rattle.vir_rules.proofs.Firsts.{first_valid}
use Rattle.vir_rules.proofs.laws.first_derivations_are_valid.Goals as goal

pub returns : goal.returns
returns c = first_valid
