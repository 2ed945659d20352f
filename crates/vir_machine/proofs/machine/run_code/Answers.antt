use Rattle.std.proofs.Common.{◌∙◌, sym, arith}
use Rattle.std.proofs.lemmas.Option.{slice_get_within}
use Rattle.vir_compile.proofs.Reached.{onward, next_reached, over}
use Rattle.vir_machine.proofs.Served.{at_served}
use Rattle.vir_machine.proofs.Steps.{same_kinds, fewer_left, part_next, asked_on, asked_all}
use Rattle.vir_machine.proofs.machine.run_code.Goals as goal

pub act-place-requires-clause-leads : goal.act-place-requires-clause-leads
act-place-requires-clause-leads g c =
    let i = c.loop-instr.invariant in
    let q = c.requires.served in
    let room = c.requires.room q.0 q.1 in
    let r = onward c.args.code.now q.0 q.1 c.args.here.now c.args.election.now.profile.lines _ i.reached
    c.in-Some.instr.now (sym c.in-Some.ensures) in (
      r.next,
      r.leads,
      omega (arith, r.splits_fit, i.splits_room, room.0),
      omega (
        arith,
        r.domains_fit,
        i.domains_room,
        room.1,
      ),
    )

pub act-place-requires-clause-served : goal.act-place-requires-clause-served
act-place-requires-clause-served g c =
    let i = c.loop-instr.invariant in
    let q = c.requires.served in
    at_served _ _ i.kinds c.args.code.now q.0 q.1 q.2 c.loop-instr.place c.in-Some.instr.now (sym c.in-Some.ensures)

pub act-place-requires-clause-small : goal.act-place-requires-clause-small
act-place-requires-clause-small g c =
    let within = slice_get_within c.args.code.now c.loop-instr.place c.in-Some.instr.now (sym c.in-Some.ensures) in
    let few = c.len.ensures.valid.few in
    omega arith

pub loop-instr-smaller : goal.loop-instr-smaller
loop-instr-smaller g c =
    let q = c.requires.served in
    fewer_left c.args.code.now q.0 q.1 c.args.here.now c.args.election.now.profile.lines _
    c.loop-instr.invariant.reached c.in-Some.instr.now (sym c.in-Some.ensures) _ c.act-place.ensures.leads

pub loop-instr-preserved : goal.loop-instr-preserved
loop-instr-preserved g c =
    let i = c.loop-instr.invariant in
    let q = c.requires.served in
    let lines = c.args.election.now.profile.lines in
    let stands = sym c.in-Some.ensures in
    let e = c.act-place.ensures in
    record {
      reached = next_reached c.args.code.now c.args.here.now lines _ _ i.reached
          (record { at = c.in-Some.instr.now; stands = stands; leads = e.leads });
      calls = asked_on c.args.code.now q.0 q.1 c.args.here.now lines _ i.reached c.in-Some.instr.now stands _ e.leads _
          _ e.calls ∙ i.calls;
      kinds = same_kinds c.in-Some.instr.now _ _ e.calls ∙ i.kinds;
      part = λ x member. c.requires.part x (part_next c.args.code.now q.0 q.1 c.args.here.now lines _ i.reached
          c.in-Some.instr.now stands _ e.leads x member);
      splits_room = e.splits_room ∙ i.splits_room;
      domains_room = e.domains_room ∙ i.domains_room;
      runs = e.runs ∙ i.runs;
    }

pub returns-clause-splits : goal.returns-clause-splits
returns-clause-splits g c =
    let i = c.loop-instr.invariant in
    λ t is.
    let ends = over c.args.code.now t is c.args.here.now c.args.election.now.profile.lines _ i.reached
    (sym c.in_default.ensures) in
    (λ j. ((ends j).splits, i.splits_room j))

pub returns-clause-domains : goal.returns-clause-domains
returns-clause-domains g c =
    let i = c.loop-instr.invariant in
    let q = c.requires.served in
    let ends = over c.args.code.now q.0 q.1 c.args.here.now c.args.election.now.profile.lines _ i.reached
    (sym c.in_default.ensures) in
    (λ j. ((ends j).domains, i.domains_room j))

pub returns-clause-calls : goal.returns-clause-calls
returns-clause-calls g c =
    let i = c.loop-instr.invariant in
    λ t is. asked_all c.args.code.now t is c.args.here.now c.args.election.now.profile.lines _ i.reached
    (sym c.in_default.ensures) _ _ i.calls
