use Rattle.std.proofs.Common.{◌≡◌, ◌++◌, take}
use Rattle.vir_soc.specs.SocText.{order_text}
use Rattle.vir_soc.proofs.write.push_order.Given as goal

-- the members so far are written
abbrev pub invariant-loop-place : goal.invariant-loop-place
invariant-loop-place l = l.out.items ≡ l.fn.out.items ++ order_text (take l.place l.order)
