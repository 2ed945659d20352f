use Rattle.std.proofs.Common.{◌↔◌, drop}
use Rattle.vir_mean.specs.Lifts.{Lifts}
use Rattle.vir_refute.proofs.lifts.lifts.Given as goal

abbrev pub invariant-loop-i : goal.invariant-loop-i
invariant-loop-i l = Lifts l.x l.before l.after ↔ Lifts l.x (drop l.i l.before) (drop l.i l.after)
