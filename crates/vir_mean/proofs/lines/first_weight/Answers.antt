use Rattle.std.proofs.Common.{ap, cond, sym, ◌∙◌, arith}
use Rattle.vir_profile.specs.Orders.{begins_with}
use Rattle.vir_mean.proofs.WeightLemmas.{weight_where-drop, weight_where-le-total}
use Rattle.vir_mean.proofs.lines.first_weight.Goals as goal

pub overflow_add-sum : goal.overflow_add-sum
overflow_add-sum c =
    let test = begins_with c.args.x in
    let line = c.line-item.result in
    let counts = ap (λ b. cond b line.weight 0) (sym c.begins_with.ensures ∙ c.if-begins_with.true) in
    omega (
      arith,
      weight_where-drop test c.args.lines.now c.loop-line.line-index line (omega arith) c.line-item.is,
      counts,
      weight_where-le-total test c.args.lines.now,
    )
