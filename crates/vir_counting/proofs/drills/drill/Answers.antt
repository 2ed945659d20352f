use Rattle.std.proofs.Common.{◌≡◌, Err, ap, sym, ◌∙◌, map}
use Rattle.std.proofs.lemmas.Result.{err_from_is_err_and}
use Rattle.vir_counting.proofs.DrillRunLemmas.{drill_printed, drill_runs}
use Rattle.vir_counting.proofs.WorkLemmas.{works_told, works_wanting}
use Rattle.vir_counting.proofs.drills.drill.Goals as goal
use Rattle.vir_counting.specs.Drill.{drill_votes}
use Rattle.vir_counting.specs.DrillResults.{drill_terms, drill_text, runs_on}
use Rattle.vir_course.specs.Wordings.{exactly}
use Rattle.vir_course.specs.declared.answer.Answer.TheVariants.{Text}
use Rattle.vir_term.specs.Tree.{tree}

pub text_of-requires-clause-served : goal.text_of-requires-clause-served
text_of-requires-clause-served g c =
    let same : map tree c.deref.result.now ≡ map tree c.deref-2.result.now =
    ap (map tree) (c.deref.ensures.value ∙ sym c.deref-2.ensures.value) in
    record { none = rw same at (sym c.in_default.ensures) }

pub returns-in_err-text_of : goal.returns-in_err-text_of
returns-in_err-text_of g c =
    let p = err_from_is_err_and c.from_residual-in_err-text_of.result c.from_residual-in_err-text_of.ensures.1 in
    let votes = drill_votes c.args.seed c.args.lines c.args.alternatives in
    let asked : map tree c.deref.result.now ≡ drill_terms =
    ap (map tree) c.deref.ensures.value ∙ c.in_ok-terms.ensures in
    let terms : map tree c.deref-2.result.now ≡ drill_terms =
    ap (map tree) c.deref-2.ensures.value ∙ c.in_ok-terms.ensures in
    let runs = drill_runs votes c.in_ok-profile.profile _ c.in_ok-profile.ensures terms in
    let some = c.in_err-text_of.ensures.began in
    works_wanting _ (runs_on votes drill_terms) (exactly (drill_text votes)) _ _ some.first some.rest
    c.from_residual-in_err-text_of.result (p.1 ∙ ap Err p.2) (rw asked at (sym c.in_default.ensures))
    (sym runs ∙ some.all_runs) some.made

pub returns : goal.returns
returns g c =
    let votes = drill_votes c.args.seed c.args.lines c.args.alternatives in
    let asked : map tree c.deref.result.now ≡ drill_terms =
    ap (map tree) c.deref.ensures.value ∙ c.in_ok-terms.ensures in
    let terms : map tree c.deref-2.result.now ≡ drill_terms =
    ap (map tree) c.deref-2.ensures.value ∙ c.in_ok-terms.ensures in
    let runs = drill_runs votes c.in_ok-profile.profile _ c.in_ok-profile.ensures terms in
    works_told _ (runs_on votes drill_terms) (exactly (drill_text votes)) _ _ (Text c.in_ok-text_of.field-0)
    (rw asked at (sym c.in_default.ensures))
    (drill_printed votes c.in_ok-profile.profile _ c.in_ok-profile.ensures terms _ c.in_ok-text_of.ensures.text)
    (rw runs at c.in_ok-text_of.ensures.ran)
