use Rattle.vir_read.proofs.RoundTripTokens.{tokens-term}
use Rattle.vir_read.proofs.laws.terms_are_pieces.Goals as goal

pub returns : goal.returns
returns c = λ t before after in_range ends. tokens-term t before after in_range ends
