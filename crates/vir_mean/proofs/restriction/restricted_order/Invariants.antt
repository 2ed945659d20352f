use Rattle.std.proofs.Common.{◌≡◌, filter, take}
use Rattle.std.specs.FinSet as set
use Rattle.vir_mean.proofs.restriction.restricted_order.Given as goal

abbrev pub invariant-loop-i : goal.invariant-loop-i
invariant-loop-i l = l.kept.items ≡ filter (set.contains l.domain) (take l.i l.order)
