use Rattle.vir_simplify.proofs.EquationLaws.{rev-rev_lem}
use Rattle.vir_simplify.proofs.laws.rev_rev.Goals as goal

pub returns : goal.returns
returns c = rev-rev_lem
