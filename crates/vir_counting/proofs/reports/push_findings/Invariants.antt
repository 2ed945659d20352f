use Rattle.std.proofs.Common.{take}
use Rattle.vir_term.specs.Tree.{tree}
use Rattle.vir_counting.specs.Findings.{TellsOf}
use Rattle.vir_counting.proofs.reports.push_findings.Given as goal

-- it is told of the first properties
abbrev pub invariant-loop-prop : goal.invariant-loop-prop
invariant-loop-prop l = TellsOf (tree l.rule) (take l.prop-index l.prop-items) l.fn.text.items l.text.items
