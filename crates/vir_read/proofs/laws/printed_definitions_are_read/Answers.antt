use Rattle.vir_read.proofs.RoundTripWhole.{read-definition}
use Rattle.vir_read.proofs.laws.printed_definitions_are_read.Goals as goal

pub returns : goal.returns
returns c = λ w t is_name within. read-definition w t is_name within
