use Rattle.std.proofs.Common.{◌≡◌, drop}
use Rattle.vir_mean.specs.Lifts.{without}
use Rattle.vir_refute.proofs.lifts.no_other.Given as goal

abbrev pub invariant-loop-i : goal.invariant-loop-i
invariant-loop-i l = without l.x (drop l.from l.order) ≡ without l.x (drop l.i l.order)
