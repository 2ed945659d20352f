use Rattle.vir_altset.proofs.OneWordLemmas.{member_within}
use Rattle.vir_altset.specs.Words.{word_count}
use Rattle.vir_altset.proofs.alt_set.AltSet.bounded.Goals as goal

pub returns : goal.returns
returns c = record { within = rw (← c.self.view_is) (member_within word_count _) }
