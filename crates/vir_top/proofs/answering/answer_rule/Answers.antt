use Rattle.std.proofs.lemmas.Result.{err_from_is_err_and}
use Rattle.vir_term.specs.Tree.{tree}
use Rattle.vir_top.proofs.AnswerLemmas.{file_plain, file_stop}
use Rattle.vir_top.proofs.answering.answer_rule.Goals as goal
use Rattle.vir_top.specs.CommandCourses.{rule_course}

pub returns-in_err-rule : goal.returns-in_err-rule
returns-in_err-rule g c = λ bench.
    let p = err_from_is_err_and c.from_residual.result c.from_residual.ensures.1 in
    rw (p.1, p.2)
    (file_stop g.S.Shelf.seen c.args.shelf.now c.rule.new.shelf _ tree (rule_course c.args.work) bench
    c.in_err-rule.field-0.0 (c.in_err-rule.ensures.performs bench))

pub returns : goal.returns
returns g c = λ bench.
    file_plain g.S.Shelf.seen c.args.shelf.now c.rule.new.shelf _ tree (rule_course c.args.work) bench
    c.in_ok-rule.rule c.on_rule.result (c.in_ok-rule.ensures.performs bench) c.on_rule.ensures
