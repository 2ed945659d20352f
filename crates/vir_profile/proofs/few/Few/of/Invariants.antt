use Rattle.std.proofs.Common.{◌≡◌, ◌≤◌, ◌<◌, take, length, All}
use Rattle.vir_profile.proofs.few.Few.of.Given as goal

abbrev pub invariant-loop-i : goal.invariant-loop-i
invariant-loop-i l = l.few ≡ take l.i l.order
