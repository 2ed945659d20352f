use Rattle.std.proofs.Common.{sym, ap, ◌∙◌, length, option_map, Some}
use Rattle.vir_rules.specs.Claims.{claim}
use Rattle.vir_rules.proofs.Reading.{none_read, count_read}
use Rattle.vir_rules.proofs.premises.premise_count.Goals as goal

pub returns-in_err-letters_in-clause-value : goal.returns-in_err-letters_in-clause-value
returns-in_err-letters_in-clause-value c =
    c.from_residual.ensures
    ∙ sym (ap (option_map length) (none_read c.row_of-conclusion.result c.args.rule (claim c.args.judgement)
    c.row_of-conclusion.ensures.row c.row_of-conclusion.ensures.known c.in_err-letters_in.ensures))

pub returns-clause-value : goal.returns-clause-value
returns-clause-value c =
    ap Some c.need_count.ensures.value
    ∙ sym (count_read c.row_of-conclusion.result c.args.rule (claim c.args.judgement) c.in_ok-letters_in.field-0
    c.row_of-conclusion.ensures.row c.row_of-conclusion.ensures.known c.in_ok-letters_in.ensures)
