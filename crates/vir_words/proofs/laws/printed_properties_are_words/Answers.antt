use Rattle.vir_words.proofs.PropLemmas.{printed_is_word}
use Rattle.vir_words.proofs.laws.printed_properties_are_words.Goals as goal

pub returns : goal.returns
returns c = λ p range. printed_is_word p range
