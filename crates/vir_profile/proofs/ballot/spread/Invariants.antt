use Rattle.std.proofs.Common.{◌≡◌, take, length}
use Rattle.vir_profile.proofs.ballot.spread.Given as goal

abbrev pub invariant-loop-i : goal.invariant-loop-i
invariant-loop-i l = take l.i l.room ≡ take l.i l.bytes
