use Rattle.std.proofs.Common.{codes, ◌∙◌}
use Rattle.std.proofs.lemmas.Result.{err_from_is_err_and}
use Rattle.vir_term.proofs.Beginnings.{appends_error, begins_after}
use Rattle.vir_term.proofs.text.push_order.Goals as goal

pub returns-in_err-push_number-2 : goal.returns-in_err-push_number-2
returns-in_err-push_number-2 c =
    let answer = c.from_residual-in_err-push_number-2 in
    let failed = err_from_is_err_and answer.result answer.ensures.1 in
    appends_error answer.result _ _ _ _ failed.1
    (begins_after _ _ _ (codes ",") c.loop-i.invariant.begun
    (c.in_err-push_number-2.ensures.unchanged ∙ c.in_ok-extend_from_slice-2.ensures.items))
