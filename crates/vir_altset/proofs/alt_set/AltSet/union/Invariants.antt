use Rattle.std.proofs.Common.{bit_or}
use Rattle.vir_altset.proofs.JoinedWordsLemmas.{JoinedBelow}
use Rattle.vir_altset.specs.Words.{word_count}
use Rattle.vir_altset.proofs.alt_set.AltSet.union.Given as goal

abbrev pub invariant-loop-i : goal.invariant-loop-i
invariant-loop-i l = JoinedBelow word_count bit_or l.initial.words l.other-inside.words l.words l.i
