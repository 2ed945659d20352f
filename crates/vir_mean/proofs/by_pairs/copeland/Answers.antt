use Rattle.std.proofs.Common.{◌≡◌, drop, get_or, sym, ap, ◌∙◌, arith}
use Rattle.std.proofs.lemmas.List.{drop_all}
use Rattle.vir_mean.proofs.by_pairs.copeland.Goals as goal
use Rattle.vir_mean.proofs.by_pairs.copeland.Goals.{then-y-x, else-y-x}
use Rattle.vir_altset.specs.Splits.{bit}
use Rattle.vir_mean.specs.Listings.{total}
use Rattle.vir_mean.specs.Scores.{beats}
use Rattle.vir_mean.proofs.MemberCounts.{lists_members}
use Rattle.vir_mean.proofs.PairScores.{bits_more, bits_same, byte_le, not_itself, same_true, copeland_is, difference}

pub loop-y-preserved : goal.loop-y-preserved
loop-y-preserved g c =
    let lines = g.T.Tally.lines c.args.tally.now c.args.domain.now in
    let x = c.args.x in
    let list = c.args.members.now in
    let i = c.loop-y.y-index in
    elim c.if-y-x.branch [
      | then-y-x w ↦ record {
        won = rw w.won-is (bits_more (λ z. beats lines x z) list i (omega arith) c.loop-y.won w.from-won.result _
            w.beats.result c.loop-y.invariant.won w.from-won.ensures w.beats.ensures);
        lost = rw w.lost-is (bits_more (λ z. beats lines z x) list i (omega arith) c.loop-y.lost w.from-lost.result _
            w.beats-then-y-x.result c.loop-y.invariant.lost w.from-lost.ensures w.beats-then-y-x.ensures);
        few_won = (
            let a = c.loop-y.invariant.few_won in
            let b = byte_le w.beats.result in
            let d = w.from-won.ensures in
            let e = w.won-is in
            omega arith);
        few_lost = (
            let a = c.loop-y.invariant.few_lost in
            let b = byte_le w.beats-then-y-x.result in
            let d = w.from-lost.ensures in
            let e = w.lost-is in
            omega arith);
      }
      | else-y-x w ↦ let none = not_itself lines x (get_or list i 0) (same_true _ x w.if-y-x.false) in record {
        won = rw w.won-is (bits_same (λ z. beats lines x z) list i (omega arith) c.loop-y.won _ c.loop-y.invariant.won
            none.0);
        lost = rw w.lost-is (bits_same (λ z. beats lines z x) list i (omega arith) c.loop-y.lost _
            c.loop-y.invariant.lost none.1);
        few_won = (let a = c.loop-y.invariant.few_won in let e = w.won-is in omega arith);
        few_lost = (let a = c.loop-y.invariant.few_lost in let e = w.lost-is in omega arith);
      }
    ]

pub returns : goal.returns
returns g c =
    let lines = g.T.Tally.lines c.args.tally.now c.args.domain.now in
    let x = c.args.x in
    let list = c.args.members.now in
    let i = c.loop-y.y-index in
    let won_none : total (λ z. bit (beats lines x z)) (drop i list) ≡ 0 = ap (total (λ z. bit (beats lines x z)))
    (drop_all i list (omega arith)) in
    let lost_none : total (λ z. bit (beats lines z x)) (drop i list) ≡ 0 = ap (total (λ z. bit (beats lines z x)))
    (drop_all i list (omega arith)) in
    let won = c.loop-y.invariant.won in
    let lost = c.loop-y.invariant.lost in
    let few = c.requires.members.few in
    let few_won = c.loop-y.invariant.few_won in
    let few_lost = c.loop-y.invariant.few_lost in
    difference _ _ c.loop-y.won c.loop-y.lost (total (λ z. bit (beats lines x z)) list)
    (total (λ z. bit (beats lines z x)) list) c.from.ensures c.from-2.ensures (omega arith) (omega arith)
    (omega arith) (omega arith)
    ∙ sym (copeland_is c.args.domain.now lines x list (lists_members c.requires.members))
