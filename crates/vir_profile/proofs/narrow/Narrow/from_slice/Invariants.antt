use Rattle.std.proofs.Common.{◌≡◌, take}
use Rattle.vir_profile.proofs.narrow.Narrow.from_slice.Given as goal

abbrev pub invariant-loop-i : goal.invariant-loop-i
invariant-loop-i l = l.places.items ≡ take l.i l.order
