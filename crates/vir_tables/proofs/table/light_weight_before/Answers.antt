use Rattle.std.proofs.Common.{◌+◌, arith, length}
use Rattle.vir_tables.proofs.BlockWeights.{weight_before-more, weight_before_le}
use Rattle.vir_tables.proofs.table.light_weight_before.Goals as goal
use Rattle.vir_tables.proofs.table.light_weight_before.Goals.{then-first-l, else-first-l}

pub overflow_add-sum : goal.overflow_add-sum
overflow_add-sum c =
    let n = length c.args.weights.now in
    let first = c.args.first.now in
    let second = c.args.second.now in
    let weights = c.args.weights.now in
    let most = weight_before_le (c.loop-l.l + 1) n first second weights (omega arith) in
    let more = weight_before-more c.loop-l.l first second weights in
    let before = c.loop-l.invariant in
    let room = c.requires.room in
    elim c.if-first-l.branch [
      | then-first-l w ↦ let is = w.sum-is in let test = w.if-first-l in grind (arith)
      | else-first-l w ↦ let is = w.sum-is in let test = w.if-first-l in grind (arith)
    ]
