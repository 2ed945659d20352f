use Rattle.vir_words.proofs.LeafLemmas.{printed_is_leaf}
use Rattle.vir_words.proofs.laws.printed_modules_are_words.Goals as goal

pub returns : goal.returns
returns c = λ l within. printed_is_leaf l within
