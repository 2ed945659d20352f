use Rattle.vir_simplify.proofs.OneSimplification.{simplifies_alike}
use Rattle.vir_simplify.proofs.laws.simplification_is_unique.Goals as goal

pub returns : goal.returns
returns c = λ t u v steps others one other. simplifies_alike steps others t u v one other
