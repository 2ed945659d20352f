use Rattle.std.proofs.Common.{take}
use Rattle.vir_claims.specs.Holdings.{TellsHeld}
use Rattle.vir_claims.proofs.synthesis.push_firsts.Given as goal
use Rattle.vir_term.specs.Tree.{tree}

-- it is told of the first properties
abbrev pub invariant-loop-prop : goal.invariant-loop-prop
invariant-loop-prop l = TellsHeld (tree l.rule) (take l.prop-index l.props) l.fn.text.items l.text.items
