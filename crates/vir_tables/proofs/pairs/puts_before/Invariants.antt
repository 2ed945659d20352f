use Rattle.std.proofs.Common.{◌≡◌, drop}
use Rattle.vir_profile.specs.Orders.{puts_before}
use Rattle.vir_tables.proofs.pairs.puts_before.Given as goal

abbrev pub invariant-loop-i : goal.invariant-loop-i
invariant-loop-i l = puts_before l.x l.y l.order ≡ puts_before l.x l.y (drop l.i l.order)
