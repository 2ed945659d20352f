use Rattle.std.proofs.Common.{List}
use Rattle.std.proofs.lemmas.Result.{err_from_is_err_and}
use Rattle.vir_term.specs.declared.leaf.LeafKind.{LeafKind}
use Rattle.vir_top.proofs.AnswerLemmas.{both_stop, both_work}
use Rattle.vir_top.proofs.answering.answer_rule_and_profile.Goals as goal
use Rattle.vir_top.specs.CommandCourses.{rule_profile_course}

pub returns-in_err-rule : goal.returns-in_err-rule
returns-in_err-rule g c =
    let p = err_from_is_err_and c.from_residual.result c.from_residual.ensures.1 in
    rw (p.1, p.2)
    (both_stop g.S.Shelf.seen c.args.shelf.now c.rule_and_profile.new.shelf
    (λ (kinds : List (List LeafKind)). rule_profile_course kinds c.args.work) _ _ _ c.in_err-rule.field-0.0
    (c.in_err-rule.ensures.performs _))

pub returns : goal.returns
returns g c =
    both_work g.S.Shelf.seen c.args.shelf.now c.rule_and_profile.new.shelf
    (λ (kinds : List (List LeafKind)). rule_profile_course kinds c.args.work) _ _ _ _ c.in_ok-rule.field-0
    c.on_rule_and_profile.result (c.in_ok-rule.ensures.performs _) c.on_rule_and_profile.ensures
