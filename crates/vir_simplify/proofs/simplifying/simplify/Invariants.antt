use Rattle.std.proofs.Common.{◌≤◌, ◌++◌, List}
use Rattle.vir_term.specs.Tree.{Tree, tree, size}
use Rattle.vir_term.specs.Limits.{size_limit}
use Rattle.vir_simplify.specs.declared.step.Step.{Step}
use Rattle.vir_simplify.specs.Steps.{Simplifies}
use Rattle.vir_simplify.proofs.simplifying.simplify.Given as goal

-- Behind the steps so far come those that simplify the term at hand.
abbrev pub invariant-loop-step : goal.invariant-loop-step
invariant-loop-step l =
    record {
      small : size (tree l.current) ≤ size_limit;
      so_far : (rest : List Step) (other : Tree) → Simplifies (tree l.current) rest other
          → Simplifies (tree l.fn.term) (l.list.items ++ rest) other;
    }

abbrev pub decreases-loop-step : goal.decreases-loop-step
decreases-loop-step l = size (tree l.current)
