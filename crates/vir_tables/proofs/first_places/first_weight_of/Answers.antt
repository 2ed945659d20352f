use Rattle.std.proofs.Common.{◌∙◌, sym, ap, cond, arith}
use Rattle.std.specs.FinSet as set
use Rattle.vir_profile.specs.Orders.{begins_with}
use Rattle.vir_tables.specs.Marks.{is_marked}
use Rattle.vir_tables.proofs.FirstPlaces.{first_weight-drop, first_weight_le_total, same_kept}
use Rattle.vir_tables.proofs.first_places.first_weight_of.Goals as goal
use Rattle.vir_tables.proofs.first_places.first_weight_of.Goals.{then-is_first, else-is_first}

pub overflow_add-weight : goal.overflow_add-weight
overflow_add-weight c =
    let lines = c.args.lines.now in
    let d = c.args.domain.now in
    let line = c.line-item.result in
    let same = same_kept (is_marked c.mark.new.marks) (set.contains d) line.order c.mark.ensures.marked in
    let counts = ap (λ b. cond b line.weight 0) (ap (begins_with c.args.x) (sym same) ∙ sym c.is_first.ensures
    ∙ c.if-is_first.true) in
    omega (
      arith,
      first_weight-drop c.args.x d lines c.loop-line.line-index line (omega arith) c.line-item.is,
      counts,
      c.loop-line.invariant,
      first_weight_le_total c.args.x d lines,
    )

pub loop-line-preserved : goal.loop-line-preserved
loop-line-preserved c =
    let lines = c.args.lines.now in
    let d = c.args.domain.now in
    let line = c.line-item.result in
    let same = same_kept (is_marked c.mark.new.marks) (set.contains d) line.order c.mark.ensures.marked in
    let next = first_weight-drop c.args.x d lines c.loop-line.line-index line (omega arith) c.line-item.is in
    let told = ap (begins_with c.args.x) (sym same) ∙ sym c.is_first.ensures in
    elim c.if-is_first.branch [
      | then-is_first w ↦ let counts = ap (λ b. cond b line.weight 0) (told ∙ w.if-is_first.true)
          in omega (arith, next, counts, c.loop-line.invariant, w.weight-is)
      | else-is_first w ↦ let counts = ap (λ b. cond b line.weight 0) (told ∙ w.if-is_first.false)
          in omega (arith, next, counts, c.loop-line.invariant, w.weight-is)
    ]
