use Rattle.vir_read.proofs.RoundTripWhole.{read-anywhere}
use Rattle.vir_read.proofs.laws.printed_terms_are_read.Goals as goal

pub returns : goal.returns
returns c = λ t before after rest within ends others opens_nothing. read-anywhere t before after rest within ends others
    opens_nothing
