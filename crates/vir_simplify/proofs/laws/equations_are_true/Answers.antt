use Rattle.vir_simplify.proofs.SideLaws.{sides-true}
use Rattle.vir_simplify.proofs.laws.equations_are_true.Goals as goal

pub returns : goal.returns
returns c = sides-true
