use Rattle.std.proofs.Common.{◌≡◌, ◌∙◌, sym, ap, arith, drop}
use Rattle.std.proofs.lemmas.List.{drop_all}
use Rattle.vir_profile.specs.Profiles.{pairwise_weight}
use Rattle.vir_mean.proofs.by_pairs.borda.Goals as goal
use Rattle.vir_mean.specs.Listings.{total}
use Rattle.vir_mean.proofs.MemberCounts.{lists_members}
use Rattle.vir_mean.proofs.PairScores.{others_in, borda_is, signed}

pub returns : goal.returns
returns g c =
    let lines = g.T.Tally.lines c.args.tally.now c.args.domain.now in
    let x = c.args.x in
    let list = c.args.members.now in
    let none : total (pairwise_weight lines x) (others_in x (drop c.loop-y.y-index list)) ≡ 0 =
    ap (λ l. total (pairwise_weight lines x) (others_in x l)) (drop_all c.loop-y.y-index list (omega arith)) in
    let sum = c.loop-y.invariant.sum in
    let small = c.loop-y.invariant.small in
    let few = c.requires.members.few in
    signed _ _ (omega arith) (omega arith)
    ∙ sym (borda_is c.args.domain.now lines x list (lists_members c.requires.members))
