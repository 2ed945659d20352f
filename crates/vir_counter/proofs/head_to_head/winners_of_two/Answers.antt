use Rattle.std.proofs.Common.{◌∙◌, sym, arith}
use Rattle.vir_counter.proofs.HeadToHead.{member_y, turned, winners_equal, winners_less}
use Rattle.vir_counter.proofs.head_to_head.winners_of_two.Goals as goal

pub without-requires-then-for_y-for_x-clause-at_least_one : goal.without-requires-then-for_y-for_x-clause-at_least_one
without-requires-then-for_y-for_x-clause-at_least_one c =
    (c.bounded.ensures.within c.args.y (member_y _ _ _ c.requires)).0

pub without-requires-then-for_y-for_x-clause-within_limit : goal.without-requires-then-for_y-for_x-clause-within_limit
without-requires-then-for_y-for_x-clause-within_limit c =
    (c.bounded.ensures.within c.args.y (member_y _ _ _ c.requires)).1

pub returns-then-for_x-for_y : goal.returns-then-for_x-for_y
returns-then-for_x-for_y c lines first second = c.without.ensures
    ∙ sym (winners_less _ _ _ c.requires lines c.args.for_x c.args.for_y first second (omega arith))

pub returns-then-for_y-for_x : goal.returns-then-for_y-for_x
returns-then-for_y-for_x c lines first second = c.without-then-for_y-for_x.ensures
    ∙ sym (winners_less _ _ _ (turned _ _ _ c.requires) lines c.args.for_y c.args.for_x second first (omega arith))

pub returns-else-for_y-for_x : goal.returns-else-for_y-for_x
returns-else-for_y-for_x c lines first second =
    sym (winners_equal _ _ _ c.requires lines c.args.for_x c.args.for_y first second (omega arith))
