use Rattle.vir_simplify.proofs.EquationLaws.{par-elect_left}
use Rattle.vir_simplify.proofs.laws.par_elect_left.Goals as goal

pub returns : goal.returns
returns c = par-elect_left
