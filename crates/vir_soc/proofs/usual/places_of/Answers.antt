use Rattle.std.proofs.Common.{◌≤◌, length, sym, ◌∙◌, arith, true}
use Rattle.std.proofs.Math.ListN.{length-set}
use Rattle.vir_soc.proofs.UsualLemmas.{Reads-feed, Reads-last, Reads-next, Reads-none, begins, decimal-feed}
use Rattle.vir_soc.proofs.UsualLemmas.{seen_more, seen_none}
use Rattle.vir_soc.proofs.usual.places_of.Goals as goal

pub loop-order-init : goal.loop-order-init
loop-order-init g c = record {
  reads = rw c.requires.none (Reads-none c.args.m c.args.bytes.now);
  size = c.requires.size;
  marks = rw (c.requires.none, c.requires.unseen) (seen_none c.args.m (length c.args.seen.now) c.requires.size);
  room = λ some. rw c.requires.none some;
}

pub returns-then-count-from : goal.returns-then-count-from
returns-then-count-from g c =
    let order = g.P.Places.list c.loop-order.order in
    let x = c.in_ok-next.next.number in
    let once = sym (c.loop-order.invariant.marks x (omega arith)) ∙ c.if-seen-x.false in
    let first = begins c.args.m x c.loop-order.rest.now c.unspaced.result.now c.in_ok-next.next.rest.now (omega arith)
    c.in_ok-next.ensures.some (omega arith) c.unspaced.ensures.digits c.in_ok-next.ensures.text in
    let all : c.args.m ≤ length (g.P.Places.list c.put.new.self) = omega arith in
    rw c.in_ok-put.ensures (Reads-last c.args.m x c.args.bytes.now order _ _ c.loop-order.invariant.reads first
    c.in_ok-next.ensures.some (omega arith) once (rw c.in_ok-put.ensures at all))

pub loop-order-preserved : goal.loop-order-preserved
loop-order-preserved g c =
    let order = g.P.Places.list c.loop-order.order in
    let x = c.in_ok-next.next.number in
    let once = sym (c.loop-order.invariant.marks x (omega arith)) ∙ c.if-seen-x.false in
    let first = begins c.args.m x c.loop-order.rest.now c.unspaced.result.now c.in_ok-next.next.rest.now (omega arith)
    c.in_ok-next.ensures.some (omega arith) c.unspaced.ensures.digits c.in_ok-next.ensures.text in
    record {
      reads = rw c.in_ok-put.ensures (Reads-next c.args.m x c.args.bytes.now order _ _
          c.loop-order.invariant.reads first c.in_ok-next.ensures.some (omega arith) once c.in_ok-rest.rest.now
          c.in_ok-rest.ensures);
      size = omega (arith, c.loop-order.invariant.size, length-set c.loop-order.seen x true);
      marks = rw c.in_ok-put.ensures (seen_more c.args.m x c.loop-order.seen order
          (omega (arith, c.loop-order.invariant.size)) c.loop-order.invariant.marks);
      room = λ _. omega arith;
    }

pub put-requires-clause-room : goal.put-requires-clause-room
put-requires-clause-room g c =
    let room = c.loop-order.invariant.room (omega (arith, c.in_ok-next.ensures.some)) in omega arith

pub unspaced-requires : goal.unspaced-requires
unspaced-requires g c = Reads-feed _ _ _ _ c.loop-order.invariant.reads c.requires.feed

pub behind-requires : goal.behind-requires
behind-requires g c = decimal-feed c.in_ok-next.next.number c.unspaced.result.now _ c.in_ok-next.ensures.small
    c.in_ok-next.ensures.text c.unspaced.ensures.feed
