use Rattle.vir_term.specs.Tree.{at_most}
use Rattle.vir_simplify.proofs.EquationLaws.{loop-loop}
use Rattle.vir_simplify.proofs.laws.until_until.Goals as goal

pub returns : goal.returns
returns c = λ k m. loop-loop (at_most k) m
