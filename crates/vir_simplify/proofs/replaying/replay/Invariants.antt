use Rattle.std.proofs.Common.{drop}
use Rattle.vir_term.specs.Tree.{Tree, tree}
use Rattle.vir_simplify.specs.Steps.{Replays}
use Rattle.vir_simplify.proofs.replaying.replay.Given as goal

-- What the steps that are left make of the term at hand is what all of them make of the first one.
abbrev pub invariant-loop-step : goal.invariant-loop-step
invariant-loop-step l =
    record {
      on : (other : Tree) → Replays (tree l.current) (drop l.step-index l.steps) other
          → Replays (tree l.fn.term) l.steps other;
      back : (other : Tree) → Replays (tree l.fn.term) l.steps other
          → Replays (tree l.current) (drop l.step-index l.steps) other;
    }
