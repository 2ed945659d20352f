use Rattle.std.proofs.Common.{◌∙◌, ◌++◌, ◌∷◌, [], sym, ap, arith}
use Rattle.vir_altset.specs.Sets.{limit}
use Rattle.vir_altset.specs.Members.{members_up_to}
use Rattle.vir_altset.proofs.MemberLaws.{members_up_to-next, members_up_to-last}
use Rattle.vir_mean.proofs.members.list_members.Goals as goal
use Rattle.vir_mean.proofs.MemberLists.{take_put, none_listed, members_are}

pub loop-turn-init : goal.loop-turn-init
loop-turn-init c = record {
  few = omega arith;
  turns = omega arith;
  within = omega arith;
  listed = none_listed c.args.list.now c.args.domain.now;
}

pub loop-turn-preserved : goal.loop-turn-preserved
loop-turn-preserved c =
    let before = c.loop-turn.invariant in
    let few = before.few in
    let turns = before.turns in
    let within = before.within in
    let next = c.in-Some.ensures.least in
    let above = next.above in
    let top = c.in-Some.ensures.within_limit in
    record {
      few = omega arith;
      turns = omega arith;
      within = omega arith;
      listed = take_put c.in-Some.x c.loop-turn.count c.loop-turn.list (omega arith) ∙ ap (λ l. l ++ c.in-Some.x ∷ [])
          before.listed ∙ sym (members_up_to-next c.args.domain.now c.loop-turn.last c.in-Some.x next);
    }

pub returns-after-loop-turn-clause-members : goal.returns-after-loop-turn-clause-members
returns-after-loop-turn-clause-members c =
    let end = c.loop-turn.invariant in
    let few = end.few in
    let turns = end.turns in
    let within = end.within in
    members_are c.args.domain.now c.loop-turn.list c.loop-turn.count c.bounded.ensures (omega arith) (end.listed
    ∙ ap (λ k. members_up_to k c.args.domain.now) (omega arith))

pub returns-after-loop-turn-clause-ascending : goal.returns-after-loop-turn-clause-ascending
returns-after-loop-turn-clause-ascending c =
    let end = c.loop-turn.invariant in
    let few = end.few in
    let turns = end.turns in
    let within = end.within in
    end.listed ∙ ap (λ k. members_up_to k c.args.domain.now) (omega arith)

pub returns-in-None-clause-members : goal.returns-in-None-clause-members
returns-in-None-clause-members c =
    let end = c.loop-turn.invariant in
    let few = end.few in
    let within = end.within in
    members_are c.args.domain.now c.loop-turn.list c.loop-turn.count c.bounded.ensures (omega arith) (end.listed
    ∙ sym (members_up_to-last c.args.domain.now c.loop-turn.last limit c.in-None.ensures.least within))

pub returns-in-None-clause-ascending : goal.returns-in-None-clause-ascending
returns-in-None-clause-ascending c =
    let end = c.loop-turn.invariant in
    end.listed ∙ sym (members_up_to-last c.args.domain.now c.loop-turn.last limit c.in-None.ensures.least end.within)
