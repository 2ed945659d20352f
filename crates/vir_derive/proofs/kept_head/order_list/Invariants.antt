use Rattle.std.proofs.Common.{◌≡◌, take}
use Rattle.vir_derive.proofs.kept_head.order_list.Given as goal

abbrev pub invariant-loop-i : goal.invariant-loop-i
invariant-loop-i l = l.list.items ≡ take l.i l.order
