use Rattle.vir_simplify.proofs.EquationLaws.{par-nobody_left}
use Rattle.vir_simplify.proofs.laws.par_nobody_left.Goals as goal

pub returns : goal.returns
returns c = par-nobody_left
