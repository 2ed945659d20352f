use Rattle.vir_derive.specs.Numbers.{is_listed}
use Rattle.vir_derive.proofs.SignatureLemmas.{restricted_has}
use Rattle.vir_derive.proofs.signatures.restrict.Goals as goal

pub returns : goal.returns
returns c = restricted_has (is_listed c.args.numbers.now) c.requires c.args.props c.number_among.result
    c.number_among-2.result (λ e. c.args.props.other ((c.number_among.ensures 1).0 e).0) c.number_among.ensures
    c.number_among-2.ensures
