use Rattle.std.proofs.Common.{take, All}
use Rattle.vir_term.specs.Tree.{tree}
use Rattle.vir_simplify.specs.Equations.{Fits, shrinking}
use Rattle.vir_simplify.proofs.seeking.first_equation.Given as goal

abbrev pub invariant-loop-equation : goal.invariant-loop-equation
invariant-loop-equation l = All (λ e. Fits e (tree l.fn.term) → ⊥) (take l.equation-index shrinking)
