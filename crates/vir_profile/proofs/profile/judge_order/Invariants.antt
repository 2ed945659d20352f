use Rattle.std.proofs.Common.{◌≡◌, [], take, drop}
use Rattle.std.specs.FinSet as set
use Rattle.std.specs.Ordering.{nat_cmp}
use Rattle.vir_profile.specs.OrderFaults.{member_fault_after}
use Rattle.vir_profile.proofs.profile.judge_order.Given as goal

abbrev pub invariant-loop-i : goal.invariant-loop-i
invariant-loop-i l =
    (l.seen ≡ set.from_list {R = nat_cmp} (take l.i l.order))
    × (member_fault_after l.alternatives [] l.order ≡ member_fault_after l.alternatives (take l.i l.order)
    (drop l.i l.order))
