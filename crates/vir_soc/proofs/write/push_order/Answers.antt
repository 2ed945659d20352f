use Rattle.std.proofs.Common.{arith}
use Rattle.vir_soc.proofs.WriteLemmas.{order_next}
use Rattle.vir_soc.proofs.write.push_order.Goals as goal

pub loop-place-preserved : goal.loop-place-preserved
loop-place-preserved c = rw (c.in_ok-push_member.ensures, c.at.ensures)
    (order_next c.args.out.now.items c.loop-place.out.items c.args.order.now c.loop-place.place (omega arith)
    c.loop-place.invariant)
