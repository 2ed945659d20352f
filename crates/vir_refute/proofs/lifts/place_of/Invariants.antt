use Rattle.std.proofs.Common.{◌≡◌, ◌+◌, drop}
use Rattle.vir_mean.specs.FixedOrders.{place}
use Rattle.vir_refute.proofs.lifts.place_of.Given as goal

abbrev pub invariant-loop-i : goal.invariant-loop-i
invariant-loop-i l = place l.x l.order ≡ l.i + place l.x (drop l.i l.order)
