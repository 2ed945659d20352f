use Rattle.vir_simplify.proofs.EquationLaws.{par-nobody_right}
use Rattle.vir_simplify.proofs.laws.par_nobody_right.Goals as goal

pub returns : goal.returns
returns c = par-nobody_right
