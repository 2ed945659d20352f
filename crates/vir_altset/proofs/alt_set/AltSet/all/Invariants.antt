use Rattle.std.proofs.Common.{◌≡◌, ◌-◌, ◌*◌}
use Rattle.vir_altset.specs.Words.{word_count, AreWords}
use Rattle.vir_altset.proofs.AllLemmas.{AreFilled}
use Rattle.vir_altset.proofs.alt_set.AltSet.all.Given as goal

abbrev pub invariant-loop-i : goal.invariant-loop-i
invariant-loop-i l = record {
  left : l.left ≡ l.m - 64 * l.i;
  are : AreWords word_count l.words;
  filled : AreFilled l.words l.m l.i;
}
