use Rattle.vir_read.proofs.RoundTripLengths.{length-term_text}
use Rattle.vir_read.proofs.laws.printed_terms_are_short.Goals as goal

pub returns : goal.returns
returns c = λ t in_range. length-term_text t in_range
