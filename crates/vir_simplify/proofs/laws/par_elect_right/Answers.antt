use Rattle.vir_simplify.proofs.EquationLaws.{par-elect_right}
use Rattle.vir_simplify.proofs.laws.par_elect_right.Goals as goal

pub returns : goal.returns
returns c = par-elect_right
