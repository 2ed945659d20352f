use Rattle.vir_simplify.proofs.FittingEquations.{loop_loop}
use Rattle.vir_simplify.proofs.equation.Equation.right_of_loop.Goals as goal

pub returns-in-LoopLoop : goal.returns-in-LoopLoop
returns-in-LoopLoop c = let inner = c.is_loop.ensures.0 c.if-is_loop.true in
    rw c.in-LoopLoop.is (loop_loop c.args.k _ inner.0 inner.1)
