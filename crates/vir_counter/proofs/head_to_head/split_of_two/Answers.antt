use Rattle.std.proofs.Common.{ap, ◌∙◌, sym, refl}
use Rattle.vir_profile.specs.Profiles.{restrict}
use Rattle.vir_counter.proofs.HeadToHead.{first_weight-two, member_x, member_y, turned}
use Rattle.vir_counter.proofs.head_to_head.split_of_two.Goals as goal

pub returns : goal.returns
returns c =
    let a = c.args.domain.now in
    let lines = c.args.election.now.profile.lines in
    let two = c.requires.two in
    let first = first_weight-two a c.args.x c.args.y two lines in
    let second = first_weight-two a c.args.y c.args.x (turned a c.args.x c.args.y two) lines in
    let winners = c.winners_of_two-elected.ensures (restrict a lines)
    (first ∙ sym (ap (λ w. w.0) c.prefers_each-for_x.ensures))
    (second ∙ sym (ap (λ w. w.1) c.prefers_each-for_x.ensures)) in
    rw (c.minus.ensures, c.empty.ensures, winners) refl

pub prefers_each-for_x-requires-clause-first : goal.prefers_each-for_x-requires-clause-first
prefers_each-for_x-requires-clause-first c = c.requires.part c.args.x (member_x _ _ _ c.requires.two)

pub prefers_each-for_x-requires-clause-second : goal.prefers_each-for_x-requires-clause-second
prefers_each-for_x-requires-clause-second c = c.requires.part c.args.y (member_y _ _ _ c.requires.two)
