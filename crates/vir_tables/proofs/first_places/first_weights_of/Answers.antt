use Rattle.std.proofs.Common.{◌≡◌, ◌+◌, ◌∙◌, sym, ap, cond, arith, drop}
use Rattle.std.specs.FinSet as set
use Rattle.vir_mean.specs.Numbers.{number_of}
use Rattle.vir_profile.specs.Orders.{begins_with}
use Rattle.vir_profile.specs.Profiles.{first_weight, restrict}
use Rattle.vir_tables.specs.Marks.{is_marked}
use Rattle.vir_tables.proofs.FirstPlaces.{first_weight-drop, first_weight_le_total, same_kept}
use Rattle.vir_tables.proofs.first_places.first_weights_of.Goals as goal

pub add_first-requires-clause-room : goal.add_first-requires-clause-room
add_first-requires-clause-room c x low high begins =
    let lines = c.args.lines.now in
    let d = c.args.domain.now in
    let line = c.line-item.result in
    let same = same_kept (is_marked c.mark.new.marks) (set.contains d) line.order c.mark.ensures.marked in
    let counts = ap (λ b. cond b line.weight 0) (ap (begins_with x) (sym same) ∙ begins) in
    let before : number_of c.loop-line.weights x + first_weight (restrict d (drop c.loop-line.line-index lines)) x
    ≡ first_weight (restrict d lines) x = c.loop-line.invariant x low high in
    omega (
      arith,
      first_weight-drop x d lines c.loop-line.line-index line (omega arith) c.line-item.is,
      counts,
      before,
      first_weight_le_total x d lines,
    )

pub loop-line-preserved : goal.loop-line-preserved
loop-line-preserved c x low high =
    let lines = c.args.lines.now in
    let d = c.args.domain.now in
    let line = c.line-item.result in
    let same = same_kept (is_marked c.mark.new.marks) (set.contains d) line.order c.mark.ensures.marked in
    let added = ap (λ o. cond (begins_with x o) line.weight 0) same in
    omega (
      arith,
      first_weight-drop x d lines c.loop-line.line-index line (omega arith) c.line-item.is,
      c.loop-line.invariant x low high,
      c.add_first.ensures.added x low high,
      added,
    )
