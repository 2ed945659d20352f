use Rattle.std.proofs.Common.{refl}
use Rattle.vir_soc.proofs.LineFeedLemmas.{feed_behind}
use Rattle.vir_soc.proofs.UsualLemmas.{BeginsWithVotes-usual, decimal-feed}
use Rattle.vir_soc.proofs.usual.usual_line.Goals as goal

pub returns : goal.returns
returns c = BeginsWithVotes-usual c.args.m c.in_ok-count.count.number c.args.bytes.now c.in_ok-count.count.rest.now
    c.in_ok-behind.field-0.now c.in_ok-order.order c.in_ok-order.rest.now c.in_ok-count.ensures.small
    c.in_ok-count.ensures.text c.in_ok-behind.ensures c.in_ok-order.ensures

pub behind-requires : goal.behind-requires
behind-requires c = decimal-feed c.in_ok-count.count.number c.args.bytes.now _ c.in_ok-count.ensures.small
    c.in_ok-count.ensures.text c.requires.feed

pub usual_order-requires-clause-feed : goal.usual_order-requires-clause-feed
usual_order-requires-clause-feed c = feed_behind 58 _ _ c.in_ok-behind.ensures refl
    (decimal-feed c.in_ok-count.count.number c.args.bytes.now _ c.in_ok-count.ensures.small c.in_ok-count.ensures.text
    c.requires.feed)
