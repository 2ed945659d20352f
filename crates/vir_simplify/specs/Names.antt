-- The names of the equations.
use Rattle.std.specs.Prelude.{ℕ, List, codes}
use Rattle.vir_simplify.specs.declared.equation.Equation.{Equation}
use Rattle.vir_simplify.specs.declared.equation.Equation.TheVariants as equation

-- the name of an equation
abbrev pub equation_text : Equation → List ℕ
equation_text equation.SeqDeferLeft = codes "seq-defer-left"
equation_text equation.SeqDeferRight = codes "seq-defer-right"
equation_text equation.SeqElect = codes "seq-elect"
equation_text equation.SeqPlurality = codes "seq-plurality"
equation_text equation.SeqNobody = codes "seq-nobody"
equation_text equation.RevElect = codes "rev-elect"
equation_text equation.RevRev = codes "rev-rev"
equation_text equation.ParSame = codes "par-same"
equation_text equation.ParElectLeft = codes "par-elect-left"
equation_text equation.ParElectRight = codes "par-elect-right"
equation_text equation.ParNobodyLeft = codes "par-nobody-left"
equation_text equation.ParNobodyRight = codes "par-nobody-right"
equation_text equation.LoopDefer = codes "loop-defer"
equation_text equation.LoopLoop = codes "loop-loop"
equation_text equation.UntilDefer = codes "until-defer"
equation_text equation.UntilUntil = codes "until-until"
equation_text equation.SeqAssocRight = codes "seq-assoc-right"
equation_text equation.SeqAssocLeft = codes "seq-assoc-left"
