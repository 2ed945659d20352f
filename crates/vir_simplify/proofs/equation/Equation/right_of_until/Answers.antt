use Rattle.vir_simplify.proofs.FittingEquations.{until_until}
use Rattle.vir_simplify.proofs.equation.Equation.right_of_until.Goals as goal

pub returns-in-UntilUntil : goal.returns-in-UntilUntil
returns-in-UntilUntil c = let inner = c.is_until.ensures.0 c.if-is_until.true in
    rw c.in-UntilUntil.is (until_until c.args.k _ inner.0 inner.1)
