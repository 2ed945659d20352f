use Rattle.vir_simplify.proofs.EquationLaws.{rev-elect_lem}
use Rattle.vir_simplify.proofs.laws.rev_elect.Goals as goal

pub returns : goal.returns
returns c = rev-elect_lem
