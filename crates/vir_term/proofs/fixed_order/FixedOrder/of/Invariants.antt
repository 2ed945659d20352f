use Rattle.std.proofs.Common.{◌≡◌, take, drop}
use Rattle.vir_term.specs.Orders.{order_fault, order_fault_after}
use Rattle.vir_term.proofs.fixed_order.FixedOrder.of.Given as goal

abbrev pub invariant-loop-i : goal.invariant-loop-i
invariant-loop-i l = order_fault l.list.items ≡ order_fault_after (take l.i l.list.items) (drop l.i l.list.items)
