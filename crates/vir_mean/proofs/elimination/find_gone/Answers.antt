use Rattle.std.proofs.Common.{◌≡◌, ◌∙◌, get_or, sym, ap, subst, rules, arith, pos}
use Rattle.std.specs.FinSet as set
use Rattle.std.proofs.lemmas.Int.{ints}
use Rattle.vir_altset.proofs.SizeLaws.{len_of_member}
use mir.Syntax.{w128}
use mir.Val.{SFits, to_z, of_z}
use Rattle.vir_mean.proofs.elimination.find_gone.Goals as goal
use Rattle.vir_mean.proofs.elimination.find_gone.Goals.{then-goes_by, else-goes_by}
use Rattle.vir_mean.specs.Numbers.{score_of, IsWithin}
use Rattle.vir_mean.specs.Numbers.{score_bound}
use Rattle.vir_mean.specs.Eliminators.{goes}
use Rattle.vir_mean.proofs.FoundMembers.{found_none, found_more, found_same, found_all, goes_at}
use Rattle.vir_mean.proofs.MemberCounts.{lists_members}
use Rattle.vir_mean.proofs.ScoreSums.{backed, small_fits}

pub loop-x-init : goal.loop-x-init
loop-x-init c y = found_none (goes c.args.kind (score_of c.args.scores.now) c.args.domain.now) c.args.members.now
    c.empty-gone.ensures y

pub goes_by-requires-clause-score : goal.goes_by-requires-clause-score
goes_by-requires-clause-score c =
    let scores = c.args.scores.now in
    let inside = c.requires.members.each c.loop-x.x-index (omega arith) in
    let small = c.requires.small.each _ inside.0 in
    let value = ap (score_of scores) c.from.ensures in
    subst (IsWithin score_bound) (sym (backed _ (small_fits _ (subst (IsWithin _) (sym value) small)) ∙ value)) small

pub goes_by-requires-clause-some : goal.goes_by-requires-clause-some
goes_by-requires-clause-some c =
    let inside = c.requires.members.each c.loop-x.x-index (omega arith) in
    let some = len_of_member c.args.domain.now _ inside.0 in
    let fits : SFits w128 c.from-size.result = search rules in
    let size : to_z w128 (of_z w128 c.from-size.result) ≡ pos (set.len c.args.domain.now) = backed _ fits
    ∙ c.from-size.ensures ∙ ap pos c.count.ensures.exact in
    omega (arith, ints)

pub loop-x-preserved : goal.loop-x-preserved
loop-x-preserved c y =
    let scores = c.args.scores.now in
    let list = c.args.members.now in
    let i = c.loop-x.x-index in
    let t = goes c.args.kind (score_of scores) c.args.domain.now in
    let inside = c.requires.members.each i (omega arith) in
    let small = c.requires.small.each _ inside.0 in
    let value = ap (score_of scores) c.from.ensures in
    let is = backed _ (small_fits _ (subst (IsWithin _) (sym value) small)) ∙ value in
    let bound_fits : SFits w128 c.bound_of-bound.result = search rules in
    let size_fits : SFits w128 c.from-size.result = search rules in
    let size : to_z w128 (of_z w128 c.from-size.result) ≡ pos (set.len c.args.domain.now) = backed _ size_fits
    ∙ c.from-size.ensures ∙ ap pos c.count.ensures.exact in
    let tells = c.goes_by.ensures ∙ goes_at c.args.kind _ _ _ _ _ _ is (backed _ bound_fits) size
    ∙ c.bound_of-bound.ensures (get_or list i 0) inside.0 in
    elim c.if-goes_by.branch [
      | then-goes_by w ↦ rw (w.gone-is, w.put.ensures) (found_more t list c.loop-x.gone i (omega arith)
          (sym tells ∙ w.if-goes_by.true) c.loop-x.invariant y)
      | else-goes_by w ↦ rw w.gone-is (found_same t list c.loop-x.gone i (omega arith) (sym tells ∙ w.if-goes_by.false)
          c.loop-x.invariant y)
    ]

pub returns : goal.returns
returns c = found_all _ c.args.domain.now c.args.members.now c.loop-x.gone c.loop-x.x-index
    (lists_members c.requires.members) (omega arith) c.loop-x.invariant
