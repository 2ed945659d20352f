use Rattle.std.proofs.Common.{◌∙◌, ap, arith, cond, sym}
use Rattle.vir_profile.specs.Orders.{puts_before}
use Rattle.vir_tables.proofs.Lines.{weight_where-drop, weight_where_le_total}
use Rattle.vir_tables.proofs.pairs.pairwise_weight_of.Goals as goal

pub overflow_add-weight : goal.overflow_add-weight
overflow_add-weight c =
    let lines = c.args.lines.now in
    let line = c.line-item.result in
    let told = sym c.puts_before.ensures
    ∙ c.if-puts_before.true in
    let counts = ap (λ b. cond b line.weight 0) told in
    omega (
      arith,
      weight_where-drop (puts_before c.args.x c.args.y) lines c.loop-line.line-index line (omega arith)
          c.line-item.is,
      counts,
      c.loop-line.invariant,
      weight_where_le_total (puts_before c.args.x c.args.y) lines,
    )
