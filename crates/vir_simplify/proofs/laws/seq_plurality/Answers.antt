use Rattle.vir_simplify.proofs.EquationLaws.{seq-plurality_lem}
use Rattle.vir_simplify.proofs.laws.seq_plurality.Goals as goal

pub returns : goal.returns
returns c = seq-plurality_lem
