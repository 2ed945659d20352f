use Rattle.vir_term.specs.Tree.{at_most}
use Rattle.vir_simplify.proofs.EquationLaws.{loop-defer}
use Rattle.vir_simplify.proofs.laws.until_defer.Goals as goal

pub returns : goal.returns
returns c = λ k. loop-defer (at_most k)
