use Rattle.vir_simplify.proofs.EquationLaws.{seq-defer_left}
use Rattle.vir_simplify.proofs.laws.seq_defer_left.Goals as goal

pub returns : goal.returns
returns c = seq-defer_left
