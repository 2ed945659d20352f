use Rattle.vir_simplify.proofs.EquationLaws.{seq-elect_lem}
use Rattle.vir_simplify.proofs.laws.seq_elect.Goals as goal

pub returns : goal.returns
returns c = seq-elect_lem
