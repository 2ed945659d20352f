use Rattle.std.proofs.Common.{ap}
use Rattle.vir_term.specs.Tree.{tree}
use Rattle.vir_simplify.proofs.FittingEquations.{until_by_number}
use Rattle.vir_simplify.proofs.right_side.is_until.Goals as goal

pub returns-in-Until : goal.returns-in-Until
returns-in-Until c = until_by_number _ (tree c.in-Until.body.value) c.in-Until.number c.args.k (ap tree c.in-Until.is)
