use Rattle.vir_words.proofs.PropLemmas.{word_is_in_range, word_is_printed}
use Rattle.vir_words.proofs.laws.words_are_printed_properties.Goals as goal

pub returns : goal.returns
returns c = record {
  text = λ word p e. word_is_printed word p e;
  range = λ word p e. word_is_in_range word p e;
}
