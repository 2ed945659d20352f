use Rattle.std.proofs.Common.{◌≡◌, ◌∙◌, ◌-◌, ◌<◌, length, get_or, true, sym, ap, arith}
use Rattle.std.specs.FinSet as set
use Rattle.vir_altset.proofs.SizeLaws.{len-empty}
use Rattle.vir_mean.proofs.fixed_orders.first_members.Goals as goal
use Rattle.vir_mean.proofs.fixed_orders.first_members.Goals.{then-has, else-has}
use Rattle.vir_mean.proofs.FirstInOrder as front
use Rattle.vir_mean.proofs.FirstInOrder.{IsFront, without_none}

pub loop-i-init : goal.loop-i-init
loop-i-init c = rw c.empty-first.ensures (record {
  front = front.no_front c.args.order.now c.args.domain.now;
  size = let none = len-empty in omega arith;
  left = without_none c.args.domain.now;
  listed = λ y member. omega arith;
})

pub returns-then-room-eq0 : goal.returns-then-room-eq0
returns-then-room-eq0 c =
    let here = c.loop-i.invariant in
    let size = here.size in
    front.front_is_first c.args.k c.args.order.now c.args.domain.now c.loop-i.first here.front (omega arith)
    (λ fewer. absurd (omega arith))

pub has-requires-clause-at_least_one : goal.has-requires-clause-at_least_one
has-requires-clause-at_least_one c = rw c.at-x.ensures (front.alternative_at c.args.order.now c.loop-i.i
    c.len-i-end.ensures.faultless (omega arith)).0

pub has-requires-clause-within_limit : goal.has-requires-clause-within_limit
has-requires-clause-within_limit c = rw c.at-x.ensures (front.alternative_at c.args.order.now c.loop-i.i
    c.len-i-end.ensures.faultless (omega arith)).1

pub put-requires-clause-at_least_one : goal.put-requires-clause-at_least_one
put-requires-clause-at_least_one c = rw c.at-x.ensures (front.alternative_at c.args.order.now c.loop-i.i
    c.len-i-end.ensures.faultless (omega arith)).0

pub put-requires-clause-within_limit : goal.put-requires-clause-within_limit
put-requires-clause-within_limit c = rw c.at-x.ensures (front.alternative_at c.args.order.now c.loop-i.i
    c.len-i-end.ensures.faultless (omega arith)).1

pub without-left-requires-clause-at_least_one : goal.without-left-requires-clause-at_least_one
without-left-requires-clause-at_least_one c = rw c.at-x.ensures (front.alternative_at c.args.order.now c.loop-i.i
    c.len-i-end.ensures.faultless (omega arith)).0

pub without-left-requires-clause-within_limit : goal.without-left-requires-clause-within_limit
without-left-requires-clause-within_limit c = rw c.at-x.ensures (front.alternative_at c.args.order.now c.loop-i.i
    c.len-i-end.ensures.faultless (omega arith)).1

pub loop-i-preserved : goal.loop-i-preserved
loop-i-preserved c =
    let here = c.loop-i.invariant in
    let order = c.args.order.now in
    let domain = c.args.domain.now in
    let first = c.loop-i.first in
    let left = c.loop-i.left in
    let i = c.loop-i.i in
    let within : i < length order = omega arith in
    let x = get_or order i 0 in
    let same : c.at-x.result ≡ x = c.at-x.ensures in
    let has : c.has.result ≡ set.contains left x = c.has.ensures ∙ ap (set.contains left) same in
    elim c.if-has.branch [
      | then-has w ↦
          let member : set.contains left x ≡ true = sym has ∙ w.if-has.true in
          let more : c.if-has.first ≡ set.insert first x = w.first-is ∙ w.put.ensures ∙ ap (set.insert first) same in
          let less : c.if-has.left ≡ set.remove left x = w.left-is ∙ w.without-left.ensures ∙ ap (set.remove left)
          same in
          record {
            front = rw more (front.front_more order domain first x here.front
                (front.member_of_left order domain first left here.left x member)
                (front.ahead_of_listed order domain first left here.left i within here.listed));
            size = rw more (front.size_next order domain first left here.left x c.if-has.room c.args.k member
                (let size = here.size in let room = w.room-is in omega arith));
            left = rw more (less ∙ front.left_next order domain first left here.left x);
            listed = rw less (front.listed_next order domain first left here.left i within here.listed);
          }
      | else-has w ↦ record {
        front = rw w.first-is here.front;
        size = rw w.first-is (rw w.room-is here.size);
        left = rw w.first-is (w.left-is ∙ here.left);
        listed = rw w.left-is (front.listed_passed order domain first left here.left i within here.listed
            (sym has ∙ w.if-has.false));
      }
    ]

pub loop-turn-init : goal.loop-turn-init
loop-turn-init c =
    let end = c.loop-i.invariant in
    record {
      front = end.front;
      size = end.size;
      left = end.left;
      listed = λ y here. let low = end.listed y here in omega arith;
      above = λ y here. let member = front.member_of_left c.args.order.now c.args.domain.now c.loop-i.first
          c.loop-i.left
          end.left y here in (c.bounded.ensures.within y member).0;
      turns = omega arith;
      within = omega arith;
    }

pub returns-then-room-eq0-2 : goal.returns-then-room-eq0-2
returns-then-room-eq0-2 c =
    let here = c.loop-turn.invariant in
    let size = here.size in
    front.front_is_first c.args.k c.args.order.now c.args.domain.now c.loop-turn.first here.front (omega arith)
    (λ fewer. absurd (omega arith))

pub returns-in-None : goal.returns-in-None
returns-in-None c =
    let here = c.loop-turn.invariant in
    let size = here.size in
    front.front_is_first c.args.k c.args.order.now c.args.domain.now c.loop-turn.first here.front (omega arith)
    (λ fewer. front.none_left c.args.order.now c.args.domain.now c.loop-turn.first c.loop-turn.left here.left
    (λ y is. sym (c.in-None.ensures.least y (here.above y is)) ∙ is))

pub loop-turn-preserved : goal.loop-turn-preserved
loop-turn-preserved c =
    let here = c.loop-turn.invariant in
    let order = c.args.order.now in
    let domain = c.args.domain.now in
    let first = c.loop-turn.first in
    let left = c.loop-turn.left in
    let x = c.in-Some.x in
    let next = c.in-Some.ensures.least in
    let further = next.above in
    let turns = here.turns in
    record {
      front = rw c.put-in-Some.ensures (front.front_more order domain first x here.front
          (front.member_of_left order domain first left here.left x next.member)
          (front.ahead_of_unlisted order domain first left here.left c.loop-turn.last x here.listed here.above next));
      size = rw c.put-in-Some.ensures (front.size_next order domain first left here.left x (c.loop-turn.room - 1)
          c.args.k
          next.member (let size = here.size in omega arith));
      left = rw c.put-in-Some.ensures (c.without-left-in-Some.ensures
          ∙ front.left_next order domain first left here.left x);
      listed = rw c.without-left-in-Some.ensures
          (front.unlisted_next order domain first left here.left c.loop-turn.last x here.listed here.above next);
      above = rw c.without-left-in-Some.ensures
          (front.above_next order domain first left here.left c.loop-turn.last x here.listed here.above next);
      turns = omega arith;
      within = c.in-Some.ensures.within_limit;
    }

pub returns : goal.returns
returns c =
    let here = c.loop-turn.invariant in
    let size = here.size in
    front.front_is_first c.args.k c.args.order.now c.args.domain.now c.loop-turn.first here.front (omega arith)
    (λ fewer. front.none_left c.args.order.now c.args.domain.now c.loop-turn.first c.loop-turn.left here.left
    (λ y is. absurd (
    let member = front.member_of_left c.args.order.now c.args.domain.now c.loop-turn.first c.loop-turn.left here.left
    y is in
    let high = (c.bounded.ensures.within y member).1 in
    let low = here.above y is in
    let turns = here.turns in
    omega arith)))
