use Rattle.std.proofs.Common.{◌≡◌, ◌||◌, false, nat_eq, get_or, sym, ap, ◌∙◌, arith, pos}
use Rattle.std.proofs.lemmas.List.{drop_all}
use Rattle.std.specs.List.{list_all}
use Rattle.vir_mean.proofs.by_pairs.condorcet.Goals as goal
use Rattle.vir_altset.specs.Splits.{bit}
use Rattle.vir_mean.specs.Scores.{beats}
use Rattle.vir_mean.proofs.MemberCounts.{lists_members}
use Rattle.vir_mean.proofs.PairScores.{apart_false, one_fails, condorcet_is}

pub returns-then-not-beats : goal.returns-then-not-beats
returns-then-not-beats g c =
    let lines = g.T.Tally.lines c.args.tally.now c.args.domain.now in
    let x = c.args.x in
    let list = c.args.members.now in
    let fails : (nat_eq (get_or list c.loop-y.y-index 0) x || beats lines x (get_or list c.loop-y.y-index 0)) ≡ false =
    ap (λ b. b || beats lines x (get_or list c.loop-y.y-index 0)) (apart_false (get_or list c.loop-y.y-index 0) x
    c.if-y-x.true) ∙ sym c.beats.ensures ∙ c.if-not-beats.true in
    ap (λ b. pos (bit b)) (sym (one_fails (λ z. nat_eq z x || beats lines x z) list c.loop-y.y-index (omega arith)
    c.loop-y.invariant fails))
    ∙ sym (condorcet_is c.args.domain.now lines x list (lists_members c.requires.members))

pub returns : goal.returns
returns g c =
    let lines = g.T.Tally.lines c.args.tally.now c.args.domain.now in
    let x = c.args.x in
    let list = c.args.members.now in
    ap (λ b. pos (bit b)) (sym (c.loop-y.invariant ∙ ap (list_all (λ z. nat_eq z x || beats lines x z))
    (drop_all c.loop-y.y-index list (omega arith))))
    ∙ sym (condorcet_is c.args.domain.now lines x list (lists_members c.requires.members))
