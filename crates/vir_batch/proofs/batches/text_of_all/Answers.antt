use Rattle.std.proofs.Common.{refl}
use Rattle.std.proofs.lemmas.Result.{err_from_is_err_and}
use Rattle.vir_batch.proofs.BatchLemmas.{text_stops, text_told, text_wanting}
use Rattle.vir_batch.proofs.batches.text_of_all.Goals as goal
use Rattle.vir_course.specs.declared.answer.Answer.TheVariants.{Text}
use Rattle.vir_term.specs.Tree.{tree}

pub returns-in_err-lines : goal.returns-in_err-lines
returns-in_err-lines g c =
    let p = err_from_is_err_and c.from_residual.result c.from_residual.ensures.1 in
    rw (p.1, p.2)
    (text_stops (tree c.args.compiled.now.rule.now) c.args.names.now g.S.Shelf.seen _ _ _ _ c.in_err-lines.field-0.0
    c.in_err-lines.ensures)

pub returns-in_err-finish : goal.returns-in_err-finish
returns-in_err-finish g c =
    let p = err_from_is_err_and c.from_residual-in_err-finish.result c.from_residual-in_err-finish.ensures.1 in
    rw (p.1, p.2)
    (text_wanting (tree c.args.compiled.now.rule.now) c.args.names.now g.S.Shelf.seen _ _ _ _ c.in_ok-lines.lines
    c.in_ok-lines.ensures)

pub returns : goal.returns
returns g c =
    text_told (tree c.args.compiled.now.rule.now) c.args.names.now g.S.Shelf.seen _ _ _ _ c.in_ok-lines.lines
    c.in_ok-lines.ensures (Text c.in_ok-finish.field-0) _ refl c.in_ok-finish.ensures
