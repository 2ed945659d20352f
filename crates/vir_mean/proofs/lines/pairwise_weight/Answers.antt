use Rattle.std.proofs.Common.{ap, cond, sym, ◌∙◌, arith}
use Rattle.vir_profile.specs.Orders.{puts_before}
use Rattle.vir_mean.proofs.WeightLemmas.{weight_where-drop, weight_where-le-total}
use Rattle.vir_mean.proofs.lines.pairwise_weight.Goals as goal

pub overflow_add-sum : goal.overflow_add-sum
overflow_add-sum c =
    let test = puts_before c.args.x c.args.y in
    let line = c.line-item.result in
    let counts = ap (λ b. cond b line.weight 0) (sym c.puts_before.ensures ∙ c.if-puts_before.true) in
    omega (
      arith,
      weight_where-drop test c.args.lines.now c.loop-line.line-index line (omega arith) c.line-item.is,
      counts,
      weight_where-le-total test c.args.lines.now,
    )
