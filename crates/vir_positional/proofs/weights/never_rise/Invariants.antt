use Rattle.std.proofs.Common.{◌≡◌, drop}
use Rattle.vir_positional.specs.WeightLists.{falls_from}
use Rattle.vir_positional.proofs.weights.never_rise.Given as goal

abbrev pub invariant-loop-i : goal.invariant-loop-i
invariant-loop-i l = falls_from l.before (drop l.i l.list) ≡ falls_from 1000000 l.list
