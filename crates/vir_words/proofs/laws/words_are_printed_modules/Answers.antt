use Rattle.vir_words.proofs.LeafLemmas.{leaf_is_printed, leaf_is_within}
use Rattle.vir_words.proofs.laws.words_are_printed_modules.Goals as goal

pub returns : goal.returns
returns c = record {
  text = λ word l e. leaf_is_printed word l e;
  range = λ word l e. leaf_is_within word l e;
}
