use Rattle.std.proofs.Common.{◌-◌, length}
use Rattle.vir_outside.proofs.Rests.{IsReading}
use Rattle.vir_outside.proofs.reading.read_selected.Given as goal

abbrev pub invariant-loop-count : goal.invariant-loop-count
invariant-loop-count g l =
    IsReading (g.S.Shelf.seen l.fn.shelf) (g.S.Shelf.seen l.shelf) l.limit l.whole.items

abbrev pub decreases-loop-count : goal.decreases-loop-count
decreases-loop-count g l = l.limit - length l.whole.items
