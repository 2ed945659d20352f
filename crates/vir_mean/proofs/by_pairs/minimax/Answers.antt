use Rattle.std.proofs.Common.{unwrap_or, sym, ap, ◌∙◌, arith}
use Rattle.std.proofs.lemmas.List.{drop_all}
use Rattle.vir_profile.specs.Profiles.{pairwise_weight}
use Rattle.vir_mean.proofs.by_pairs.minimax.Goals as goal
use Rattle.vir_mean.proofs.by_pairs.minimax.Goals.{then-y-x, else-y-x}
use Rattle.vir_mean.specs.Extremes.{fold, lowered}
use Rattle.vir_mean.proofs.MemberListings.{lower}
use Rattle.vir_mean.proofs.MemberCounts.{lists_members}
use Rattle.vir_mean.proofs.PairScores.{others_in, least_more, least_same, minimax_is, plain}

pub loop-y-preserved : goal.loop-y-preserved
loop-y-preserved g c =
    let lines = g.T.Tally.lines c.args.tally.now c.args.domain.now in
    let x = c.args.x in
    let list = c.args.members.now in
    let i = c.loop-y.y-index in
    elim c.if-y-x.branch [
      | then-y-x w ↦ least_more (pairwise_weight lines x) x list i (omega arith) _ _ _ w.if-y-x.true (w.least-is
          ∙ w.fewer_of-least.ensures ∙ ap (lowered c.loop-y.least) w.prefers.ensures) c.loop-y.invariant
      | else-y-x w ↦ least_same (pairwise_weight lines x) x list i (omega arith) _ _ _ w.if-y-x.false w.least-is
          c.loop-y.invariant
    ]

pub returns : goal.returns
returns g c =
    let lines = g.T.Tally.lines c.args.tally.now c.args.domain.now in
    let x = c.args.x in
    let list = c.args.members.now in
    let found = sym (ap (λ l. fold (lower (pairwise_weight lines x)) c.loop-y.least (others_in x l))
    (drop_all c.loop-y.y-index list (omega arith))) ∙ c.loop-y.invariant in
    plain _ _ _ c.from.ensures (c.unwrap_or.ensures ∙ ap (λ o. unwrap_or o 0) found) (omega arith)
    ∙ sym (minimax_is c.args.domain.now lines x list (lists_members c.requires.members))
