use Rattle.std.proofs.Common.{Err, [], ◌∷◌, ap, refl, sym, ◌∙◌}
use Rattle.std.proofs.lemmas.Result.{err_from_is_err_and}
use Rattle.vir_machine.specs.Runs.{Run}
use Rattle.vir_course.specs.Wordings.{report_of}
use Rattle.vir_course.specs.declared.answer.Answer.TheVariants.{Text}
use Rattle.vir_term.specs.Tree.{tree}
use Rattle.vir_counting.proofs.ReportLemmas.{reported_of}
use Rattle.vir_counting.proofs.WorkLemmas.{works_told, works_wanting_at}
use Rattle.vir_counting.proofs.reports.report.Goals as goal

pub returns-in_err-text_of : goal.returns-in_err-text_of
returns-in_err-text_of g c =
    let p = err_from_is_err_and c.from_residual-in_err-text_of.result c.from_residual-in_err-text_of.ensures.1 in
    let t = tree c.args.rule.now in
    let run : Run = record { term = t; votes = c.args.file.profile } in
    works_wanting_at _ run (report_of t c.args.file) _ _ c.from_residual-in_err-text_of.result (p.1 ∙ ap Err p.2)
    (sym c.in_default.ensures.first) c.in_err-text_of.ensures.began

pub returns : goal.returns
returns g c =
    let t = tree c.args.rule.now in
    let run : Run = record { term = t; votes = c.args.file.profile } in
    works_told _ (run ∷ []) (report_of t c.args.file) _ _ (Text c.in_ok-text_of.field-0)
    (sym c.in_default.ensures.first)
    (reported_of t c.args.file _ c.requires.in_range c.in_ok-text_of.ensures.text) c.in_ok-text_of.ensures.ran
