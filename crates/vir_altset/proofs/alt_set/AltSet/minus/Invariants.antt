use Rattle.std.proofs.Common.{w64}
use Rattle.std.specs.Int.{bit_not}
use Rattle.std.specs.Prelude.{bit_and}
use Rattle.vir_altset.proofs.JoinedWordsLemmas.{JoinedBelow}
use Rattle.vir_altset.specs.Words.{word_count}
use Rattle.vir_altset.proofs.alt_set.AltSet.minus.Given as goal

abbrev pub invariant-loop-i : goal.invariant-loop-i
invariant-loop-i l = JoinedBelow word_count (λ a b. bit_and a (bit_not w64 b)) l.initial.words l.other-inside.words
    l.words l.i
