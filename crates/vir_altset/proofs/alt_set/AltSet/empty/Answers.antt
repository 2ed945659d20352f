use Rattle.std.proofs.Common.{ℕ, replicate}
use Rattle.vir_altset.proofs.OneWordLemmas.{set_of-zeros, get_or-zeros}
use Rattle.vir_altset.specs.Words.{word_count}
use Rattle.vir_altset.proofs.alt_set.AltSet.empty.Goals as goal

pub returns : goal.returns
returns c = set_of-zeros word_count (replicate {A = ℕ} word_count 0) (get_or-zeros word_count)
