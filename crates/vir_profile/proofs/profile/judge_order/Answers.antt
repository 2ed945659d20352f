use Rattle.std.proofs.Common.{refl, ap, sym, ◌∙◌, arith}
use Rattle.std.specs.FinSet as set
use Rattle.vir_profile.proofs.OrderLemmas.{seen_more, member_step, member_repeats}
use Rattle.vir_profile.proofs.profile.judge_order.Goals as goal

pub returns-then-has : goal.returns-then-has
returns-then-has c =
    let order = c.args.order.now in
    let place = c.loop-i.i in
    let x = c.at-x.result in
    let seen = sym c.if-has.true ∙ c.has.ensures ∙ ap (λ s. set.contains s x) c.loop-i.invariant.0 in
    let fault = c.loop-i.invariant.1 ∙ member_repeats c.args.alternatives order place x (omega arith) c.at-x.ensures
    (omega arith) (omega arith) seen in
    rw fault refl

pub loop-i-preserved : goal.loop-i-preserved
loop-i-preserved c =
    let m = c.args.alternatives in
    let order = c.args.order.now in
    let place = c.loop-i.i in
    let x = c.at-x.result in
    let seen = sym c.if-has.false ∙ c.has.ensures ∙ ap (λ s. set.contains s x) c.loop-i.invariant.0 in (
      c.put.ensures ∙ ap (λ s. set.insert s x) c.loop-i.invariant.0 ∙ seen_more m order place x (omega arith)
          c.at-x.ensures,
      c.loop-i.invariant.1 ∙ member_step m order place x (omega arith) c.at-x.ensures (omega arith) (omega arith) seen,
    )
