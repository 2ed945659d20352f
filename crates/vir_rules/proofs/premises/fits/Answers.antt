use Rattle.std.proofs.Common.{◌∙◌}
use Rattle.vir_rules.specs.Claims.{claim}
use Rattle.vir_rules.proofs.Reading.{fits_read}
use Rattle.vir_rules.proofs.premises.fits.Goals as goal

pub returns : goal.returns
returns c = c.is_some.ensures ∙ fits_read c.row_of-conclusion.result c.args.rule (claim c.args.judgement)
    c.letters_in.result c.row_of-conclusion.ensures.row c.row_of-conclusion.ensures.known c.letters_in.ensures
