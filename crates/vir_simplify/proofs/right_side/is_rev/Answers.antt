use Rattle.std.proofs.Common.{refl, ap}
use Rattle.vir_term.specs.Tree.{tree}
use Rattle.vir_simplify.proofs.right_side.is_rev.Goals as goal

pub returns-in-Rev : goal.returns-in-Rev
returns-in-Rev c = (λ yes. (tree c.in-Rev.field-0.value, ap tree c.in-Rev.is), λ is. refl)
