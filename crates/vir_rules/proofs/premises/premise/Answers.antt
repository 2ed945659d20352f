use Rattle.std.proofs.Common.{sym, ap, ◌∙◌, slice_get, option_map, Some}
use Rattle.std.specs.Option.{option_and_then}
use Rattle.vir_rules.specs.Claims.{claim}
use Rattle.vir_rules.specs.Premises.{filled}
use Rattle.vir_rules.specs.Seen.{letters_seen}
use Rattle.vir_rules.proofs.Reading.{none_read, premise_read}
use Rattle.vir_rules.proofs.premises.premise.Goals as goal

pub returns-in_err-letters : goal.returns-in_err-letters
returns-in_err-letters c =
    ap (option_map claim) c.from_residual.ensures
    ∙ sym (ap (option_and_then (λ needed. slice_get needed c.args.i))
    (none_read c.row_of-conclusion.result c.args.rule (claim c.args.judgement) c.row_of-conclusion.ensures.row
    c.row_of-conclusion.ensures.known c.in_err-letters.ensures))

pub returns-in_err-need : goal.returns-in_err-need
returns-in_err-need c =
    ap (option_map claim) c.from_residual-in_err-need.ensures
    ∙ ap (option_map (filled (letters_seen c.in_ok-letters.letters))) c.in_err-need.ensures
    ∙ sym (premise_read c.row_of-conclusion.result c.args.rule (claim c.args.judgement) c.in_ok-letters.letters c.args.i
    c.row_of-conclusion.ensures.row c.row_of-conclusion.ensures.known c.in_ok-letters.ensures)

pub returns : goal.returns
returns c =
    ap Some c.fill.ensures
    ∙ ap (option_map (filled (letters_seen c.in_ok-letters.letters))) c.in_ok-need.ensures
    ∙ sym (premise_read c.row_of-conclusion.result c.args.rule (claim c.args.judgement) c.in_ok-letters.letters c.args.i
    c.row_of-conclusion.ensures.row c.row_of-conclusion.ensures.known c.in_ok-letters.ensures)
