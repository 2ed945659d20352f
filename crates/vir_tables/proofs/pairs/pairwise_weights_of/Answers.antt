use Rattle.std.proofs.Common.{ap, arith}
use Rattle.vir_profile.specs.Orders.{puts_before}
use Rattle.vir_tables.proofs.Lines.{weight_where-drop, weight_where_le_total}
use Rattle.vir_tables.proofs.pairs.pairwise_weights_of.Goals as goal

pub overflow_add-before : goal.overflow_add-before
overflow_add-before c =
    let lines = c.args.lines.now in
    let line = c.line-item.result in
    let test = puts_before c.args.x c.args.y in
    omega (
      arith,
      weight_where-drop test lines c.loop-line.line-index line (omega arith) c.line-item.is,
      ap (λ w. w.0) c.weights_in-weights.ensures,
      c.loop-line.invariant.first,
      weight_where_le_total test lines,
    )

pub overflow_add-behind : goal.overflow_add-behind
overflow_add-behind c =
    let lines = c.args.lines.now in
    let line = c.line-item.result in
    let test = puts_before c.args.y c.args.x in
    omega (
      arith,
      weight_where-drop test lines c.loop-line.line-index line (omega arith) c.line-item.is,
      ap (λ w. w.1) c.weights_in-weights.ensures,
      c.loop-line.invariant.second,
      weight_where_le_total test lines,
    )
