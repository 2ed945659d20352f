use Rattle.std.proofs.Common.{◌≡◌, ◌+◌, ◌-◌, ◌∙◌, ap, cond, arith, drop, replicate, get_or}
use Rattle.vir_altset.proofs.OneWordLemmas.{get_or-zeros}
use Rattle.vir_profile.specs.Orders.{begins_with}
use Rattle.vir_profile.specs.Profiles.{first_weight}
use Rattle.vir_mean.specs.Numbers.{number_of}
use Rattle.vir_mean.proofs.WeightLemmas.{weight_where-drop, weight_where-drop_all, weight_where-le-total}
use Rattle.vir_mean.proofs.lines.add_up_first_places.Goals as goal

pub loop-line-init : goal.loop-line-init
loop-line-init c x low high =
    let zeros : c.fill.new.self ≡ replicate _ 0 = c.fill.ensures.after (λ y is. is) in
    let zero : number_of c.fill.new.self x ≡ 0 = ap (λ l. get_or l (x - 1) 0) zeros ∙ get_or-zeros _ (x - 1) in
    omega arith

pub add_first_place-requires-clause-room : goal.add_first_place-requires-clause-room
add_first_place-requires-clause-room c x low high begins =
    let lines = c.args.lines.now in
    let line = c.line-item.result in
    let counts = ap (λ b. cond b line.weight 0) begins in
    let before : number_of c.loop-line.weights x + first_weight (drop c.loop-line.line-index lines) x
    ≡ first_weight lines x = c.loop-line.invariant x low high in
    omega (
      arith,
      weight_where-drop (begins_with x) lines c.loop-line.line-index line (omega arith) c.line-item.is,
      counts,
      before,
      weight_where-le-total (begins_with x) lines,
    )

pub loop-line-preserved : goal.loop-line-preserved
loop-line-preserved c x low high =
    let lines = c.args.lines.now in
    omega (
      arith,
      weight_where-drop (begins_with x) lines c.loop-line.line-index c.line-item.result (omega arith)
          c.line-item.is,
      c.loop-line.invariant x low high,
      c.add_first_place.ensures.added x low high,
    )

pub returns : goal.returns
returns c = record {
  size = omega arith;
  each = λ x low high. let none = weight_where-drop_all (begins_with x) c.args.lines.now c.loop-line.line-index
      (omega arith) in let sum = c.loop-line.invariant x low high in omega arith;
}
