use Rattle.std.proofs.Common.{sym, ◌∙◌}
use Rattle.vir_derive.proofs.SignatureLemmas.{kept_none}
use Rattle.vir_derive.proofs.signatures.number_among.Goals as goal

pub returns-else-contains : goal.returns-else-contains
returns-else-contains c = kept_none c.args.number c.in_ok-k.k c.args.numbers.now c.in_ok-k.was
    (sym c.contains.ensures.value ∙ c.if-contains.false)
