use Rattle.vir_simplify.proofs.EquationLaws.{seq-defer_right}
use Rattle.vir_simplify.proofs.laws.seq_defer_right.Goals as goal

pub returns : goal.returns
returns c = seq-defer_right
