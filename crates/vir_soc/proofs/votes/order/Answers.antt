use Rattle.std.proofs.Common.{◌∙◌, []}
use Rattle.vir_soc.proofs.OrderLemmas.{order_refused, order_repeated, order_last, order_more, sound_push, stood_before}
use Rattle.vir_soc.proofs.OrderLemmas.{seen_push}
use Rattle.vir_soc.proofs.votes.order.Goals as goal

pub returns-in-Err-clause-exact : goal.returns-in-Err-clause-exact
returns-in-Err-clause-exact c = c.loop-x.invariant.same ∙ order_refused c.args.m c.loop-x.order.items c.loop-x.rest.now
    _ c.cut.ensures.before c.in-Err.kind c.in-Err.ensures.exact

pub returns-then-has-clause-exact : goal.returns-then-has-clause-exact
returns-then-has-clause-exact c =
    let s = stood_before c.loop-x.seen c.loop-x.order.items c.in-Ok.x _ _ c.loop-x.invariant.set c.has.ensures
    c.if-has.true in
    c.loop-x.invariant.same ∙ order_repeated c.args.m c.loop-x.order.items c.loop-x.rest.now _ c.cut.ensures.before
    c.in-Ok.x c.in-Ok.ensures.exact s

pub returns-in-None-clause-exact : goal.returns-in-None-clause-exact
returns-in-None-clause-exact c =
    let s = stood_before c.loop-x.seen c.loop-x.order.items c.in-Ok.x _ _ c.loop-x.invariant.set c.has.ensures
    c.if-has.false in
    let e = rw c.in-None.is at c.cut.ensures.after in
    rw c.in_ok-push.ensures.items (c.loop-x.invariant.same ∙ order_last c.args.m c.loop-x.order.items c.loop-x.rest.now
    _ c.cut.ensures.before c.in-Ok.x c.in-Ok.ensures.exact e s)

pub returns-in-None-clause-known : goal.returns-in-None-clause-known
returns-in-None-clause-known c =
    let s = stood_before c.loop-x.seen c.loop-x.order.items c.in-Ok.x _ _ c.loop-x.invariant.set c.has.ensures
    c.if-has.false in
    rw c.in_ok-push.ensures.items (sound_push c.args.m [] c.loop-x.order.items c.in-Ok.x c.in-Ok.ensures.range.0
    c.in-Ok.ensures.range.1 c.loop-x.invariant.sound s)

pub loop-x-preserved : goal.loop-x-preserved
loop-x-preserved c =
    let s = stood_before c.loop-x.seen c.loop-x.order.items c.in-Ok.x _ _ c.loop-x.invariant.set c.has.ensures
    c.if-has.false in
    let e = rw c.in-Some.is at c.cut.ensures.after in
    record {
      same = rw (c.in_ok-push.ensures.items, e.1) (c.loop-x.invariant.same ∙ order_more c.args.m c.loop-x.order.items
          c.loop-x.rest.now _ c.cut.ensures.before c.in-Ok.x c.in-Ok.ensures.exact e.0 s);
      set = rw c.in_ok-push.ensures.items (c.put.ensures ∙ seen_push c.loop-x.seen c.loop-x.order.items c.in-Ok.x
          c.loop-x.invariant.set);
      sound = rw c.in_ok-push.ensures.items (sound_push c.args.m [] c.loop-x.order.items c.in-Ok.x
          c.in-Ok.ensures.range.0 c.in-Ok.ensures.range.1 c.loop-x.invariant.sound s);
    }
