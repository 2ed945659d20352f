use Rattle.std.proofs.Common.{◌∙◌, arith}
use Rattle.vir_term.proofs.OrderLemmas.{order_fault_after-new, order_fault_after-repeated}
use Rattle.vir_term.proofs.fixed_order.FixedOrder.of.Goals as goal

pub returns-then-contains : goal.returns-then-contains
returns-then-contains c = c.loop-i.invariant ∙ order_fault_after-repeated _ c.loop-i.i _ (omega arith) c.index.ensures
    (omega arith) (omega arith) (rw c.deref.ensures.value at c.if-contains.ensures.value)

pub loop-i-preserved : goal.loop-i-preserved
loop-i-preserved c = c.loop-i.invariant ∙ order_fault_after-new _ c.loop-i.i _ (omega arith) c.index.ensures
    (omega arith) (omega arith) (rw c.deref.ensures.value at c.if-contains.ensures.value)
