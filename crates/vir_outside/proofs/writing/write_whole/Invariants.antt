use Rattle.std.proofs.Common.{◌≡◌, length}
use Rattle.vir_outside.proofs.Texts.{IsWriting}
use Rattle.vir_outside.proofs.writing.write_whole.Given as goal

abbrev pub invariant-loop-left : goal.invariant-loop-left
invariant-loop-left g l =
    IsWriting l.text l.left (g.W.Sink.seen l.fn.sink) (g.W.Sink.seen l.sink) (l.sink ≡ l.fn.sink)

abbrev pub decreases-loop-left : goal.decreases-loop-left
decreases-loop-left g l = length l.left
