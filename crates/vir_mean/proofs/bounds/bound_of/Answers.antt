use Rattle.std.proofs.Common.{◌∙◌, sym, ap, rules, int_lt, int_le}
use mir.Syntax.{w128}
use mir.Val.{SFits}
use Rattle.vir_mean.proofs.bounds.bound_of.Goals as goal
use Rattle.vir_mean.specs.Numbers.{score_of}
use Rattle.vir_mean.proofs.MemberListings.{is_passed_by, is_least_by}
use Rattle.vir_mean.proofs.MemberCounts.{lists_members}
use Rattle.vir_mean.proofs.ScoreSums.{backed}

pub returns-in-Max : goal.returns-in-Max
returns-in-Max c x m =
    let f = score_of c.args.scores.now in
    let fits : SFits w128 c.greatest_score.result = search rules in
    rw c.in-Max.is (ap (int_lt (f x)) (backed _ fits ∙ c.greatest_score.ensures)
    ∙ sym (is_passed_by f c.args.domain.now c.args.members.now x (lists_members c.requires.members) m))

pub returns-in-Min : goal.returns-in-Min
returns-in-Min c x m =
    let f = score_of c.args.scores.now in
    let fits : SFits w128 c.least_score.result = search rules in
    rw c.in-Min.is (ap (int_le (f x)) (backed _ fits ∙ c.least_score.ensures)
    ∙ sym (is_least_by f c.args.domain.now c.args.members.now x (lists_members c.requires.members) m))
