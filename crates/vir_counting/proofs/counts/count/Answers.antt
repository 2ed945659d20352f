use Rattle.std.proofs.Common.{Err, [], ◌∷◌, ap, refl, sym, ◌∙◌}
use Rattle.std.proofs.lemmas.Result.{err_from_is_err_and}
use Rattle.vir_course.specs.Reports.{count_text}
use Rattle.vir_machine.specs.Runs.{Run}
use Rattle.vir_course.specs.Wordings.{exactly}
use Rattle.vir_course.specs.declared.answer.Answer.TheVariants.{Text}
use Rattle.vir_term.specs.Tree.{tree}
use Rattle.vir_counting.proofs.WorkLemmas.{counted_text, works_told, works_wanting}
use Rattle.vir_counting.proofs.counts.count.Goals as goal

pub returns-in_err-result_text : goal.returns-in_err-result_text
returns-in_err-result_text g c =
    let p = err_from_is_err_and c.from_residual-in_err-result_text.result c.from_residual-in_err-result_text.ensures.1
    in
    let t = tree c.args.rule.now in
    let run : Run = record { term = t; votes = c.args.file.profile } in
    works_wanting _ (run ∷ []) (exactly (count_text t c.args.file.profile)) _ _ (run ∷ []) []
    c.from_residual-in_err-result_text.result (p.1 ∙ ap Err p.2) (sym c.in_default.ensures.first) refl
    c.in_ok-split.ensures.ran

pub returns : goal.returns
returns g c =
    let t = tree c.args.rule.now in
    let run : Run = record { term = t; votes = c.args.file.profile } in
    works_told _ (run ∷ []) (exactly (count_text t c.args.file.profile)) _ _ (Text c.in_ok-result_text.field-0)
    (sym c.in_default.ensures.first)
    (counted_text t c.args.file.profile c.in_ok-split.split _ c.in_ok-split.ensures.split c.in_ok-result_text.ensures)
    c.in_ok-split.ensures.ran
