use Rattle.std.proofs.Common.{◌+◌, ◌<◌, ◌∙◌, sym, ap, arith, get_or, subst, ◌+ℤ◌}
use mir.Syntax.{w128}
use mir.Val.{SFits, to_z, of_z}
use Rattle.vir_altset.specs.Sets.{limit}
use Rattle.vir_mean.proofs.bounds.sum_of_scores.Goals as goal
use Rattle.vir_mean.specs.Numbers.{score_of, IsWithin}
use Rattle.vir_mean.proofs.MemberListings.{listed_lists, sum_listings}
use Rattle.vir_mean.proofs.PairScores.{here}
use Rattle.vir_mean.proofs.MemberCounts.{lists_members}
use Rattle.vir_mean.proofs.ScoreSums.{Added, added_more, added_all, backed, fits_more, small_fits}

pub overflow_add-sum : goal.overflow_add-sum
overflow_add-sum c =
    let scores = c.args.scores.now in
    let i = c.loop-x.x-index in
    let inside = c.requires.members.each i (omega arith) in
    let small = c.requires.small.each _ inside.0 in
    let few = c.requires.members.few in
    let short : i < limit + 1 = omega arith in
    let value = ap (score_of scores) c.from.ensures in
    let is = backed _ (small_fits _ (subst (IsWithin _) (sym value) small)) ∙ value in
    subst (λ v. SFits w128 (to_z w128 c.loop-x.sum-bits +ℤ v)) (sym is) (fits_more c.loop-x.invariant short _ small)

pub loop-x-preserved : goal.loop-x-preserved
loop-x-preserved c =
    let scores = c.args.scores.now in
    let list = c.args.members.now in
    let i = c.loop-x.x-index in
    let inside = c.requires.members.each i (omega arith) in
    let small = c.requires.small.each _ inside.0 in
    let few = c.requires.members.few in
    let short : i < limit + 1 = omega arith in
    let value = ap (score_of scores) c.from.ensures in
    let is = backed _ (small_fits _ (subst (IsWithin _) (sym value) small)) ∙ value in
    let sum = ap (λ v. to_z w128 (of_z w128 (to_z w128 c.loop-x.sum-bits +ℤ v))) is
    ∙ backed _ (fits_more c.loop-x.invariant short _ small) in
    subst (λ z. Added scores list z (i + 1)) (sym sum) (added_more c.loop-x.invariant (get_or list i 0)
    (here list i (omega arith)) _ (λ k. score_of scores (get_or list i 0)) small)

pub returns : goal.returns
returns c = added_all c.loop-x.invariant (omega arith) ∙ sum_listings (score_of c.args.scores.now) c.args.domain.now
    c.args.members.now _ (lists_members c.requires.members) (listed_lists c.args.domain.now)
