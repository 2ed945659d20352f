use Rattle.vir_simplify.proofs.EquationLaws.{par-same}
use Rattle.vir_simplify.proofs.laws.par_same.Goals as goal

pub returns : goal.returns
returns c = par-same
