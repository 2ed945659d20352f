use Rattle.vir_read.proofs.RoundTripTyping.{typed-spelled}
use Rattle.vir_read.proofs.laws.spelled_terms_are_typed.Goals as goal

pub returns : goal.returns
returns c = λ text names t raw level spelled in_range flat. typed-spelled text names t raw level spelled in_range flat
