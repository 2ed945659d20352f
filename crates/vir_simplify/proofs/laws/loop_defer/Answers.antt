use Rattle.vir_term.specs.Tree.{exactly}
use Rattle.vir_simplify.proofs.EquationLaws.{loop-defer}
use Rattle.vir_simplify.proofs.laws.loop_defer.Goals as goal

pub returns : goal.returns
returns c = λ k. loop-defer (exactly k)
