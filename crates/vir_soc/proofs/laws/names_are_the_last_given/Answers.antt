use Rattle.vir_soc.proofs.GivenNameLemmas.{names_are_the_last_given}
use Rattle.vir_soc.proofs.laws.names_are_the_last_given.Goals as goal

pub returns : goal.returns
returns c = names_are_the_last_given
