use Rattle.std.proofs.Common.{ap}
use Rattle.vir_term.specs.Tree.{tree}
use Rattle.vir_simplify.proofs.FittingEquations.{loop_by_number}
use Rattle.vir_simplify.proofs.right_side.is_loop.Goals as goal

pub returns-in-Loop : goal.returns-in-Loop
returns-in-Loop c = loop_by_number _ (tree c.in-Loop.body.value) c.in-Loop.number c.args.k (ap tree c.in-Loop.is)
