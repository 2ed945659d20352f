use Rattle.std.proofs.Common.{◌≡◌, map, take}
use Rattle.vir_find.specs.Exchanges.{exchanging}
use Rattle.vir_find.proofs.exchanging.exchanged_order.Given as goal

abbrev pub invariant-loop-x : goal.invariant-loop-x
invariant-loop-x l = l.renamed.items ≡ map (exchanging l.i) (take l.x-index l.order)
