use Rattle.vir_term.specs.Tree.{exactly}
use Rattle.vir_simplify.proofs.EquationLaws.{loop-loop}
use Rattle.vir_simplify.proofs.laws.loop_loop.Goals as goal

pub returns : goal.returns
returns c = λ k m. loop-loop (exactly k) m
