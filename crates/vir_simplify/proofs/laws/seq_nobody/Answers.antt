use Rattle.vir_simplify.proofs.EquationLaws.{seq-nobody_lem}
use Rattle.vir_simplify.proofs.laws.seq_nobody.Goals as goal

pub returns : goal.returns
returns c = seq-nobody_lem
