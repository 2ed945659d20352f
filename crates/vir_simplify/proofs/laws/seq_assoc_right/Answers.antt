use Rattle.vir_simplify.proofs.EquationLaws.{seq-assoc}
use Rattle.vir_simplify.proofs.laws.seq_assoc_right.Goals as goal

pub returns : goal.returns
returns c = seq-assoc
