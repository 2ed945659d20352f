use Rattle.std.proofs.Common.{ap, ◌∙◌}
use Rattle.std.proofs.lemmas.Result.{err_from_is_err_and}
use Rattle.vir_files.specs.Readings.{rule_profile, rule_two_profiles}
use Rattle.vir_files.specs.declared.three_files.RuleAndTwoProfiles.{RuleAndTwoProfiles}
use Rattle.vir_profile.specs.Profiles.{Votes}
use Rattle.vir_refute.specs.Cases.{pair}
use Rattle.vir_refute.specs.Judged.{election_of}
use Rattle.vir_term.specs.Tree.{tree}
use Rattle.vir_top.proofs.AnswerLemmas.{file_plain, file_stop, refute_same}
use Rattle.vir_top.specs.CommandCourses.{pair_course}
use Rattle.vir_top.proofs.answering.answer_refute_pair.Goals as goal

pub returns-in_err-rule : goal.returns-in_err-rule
returns-in_err-rule g c = λ bench.
    let p = err_from_is_err_and c.from_residual.result c.from_residual.ensures.1 in
    rw (p.1, p.2)
    (file_stop g.S.Shelf.seen c.args.shelf.now c.rule_and_two_profiles.new.shelf _
    (λ (all : RuleAndTwoProfiles). rule_two_profiles (rule_profile (tree all.rule) all.first) all.second)
    (pair_course c.args.prop c.args.lifted) bench
    c.in_err-rule.field-0.0 (c.in_err-rule.ensures.performs bench))

pub returns : goal.returns
returns g c = λ bench.
    let all = c.in_ok-rule.field-0 in
    let lifted = c.args.lifted in
    file_plain g.S.Shelf.seen c.args.shelf.now c.rule_and_two_profiles.new.shelf _
    (λ (all : RuleAndTwoProfiles). rule_two_profiles (rule_profile (tree all.rule) all.first) all.second)
    (pair_course c.args.prop lifted) bench
    all c.refute.result (c.in_ok-rule.ensures.performs bench)
    (refute_same (tree all.rule) c.args.prop
    (pair (election_of all.first.profile) (election_of all.second.profile) lifted)
    (pair (election_of c.profile-first.result.now) (election_of c.profile-second.result.now) lifted) c.refute.result
    (ap (λ (v : Votes). pair (election_of v) (election_of c.profile-second.result.now) lifted) c.profile-first.ensures
    ∙ ap (λ (v : Votes). pair (election_of all.first.profile) (election_of v) lifted) c.profile-second.ensures)
    c.refute.ensures)
