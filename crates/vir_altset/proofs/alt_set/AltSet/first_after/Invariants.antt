use Rattle.std.proofs.Common.{◌*◌, ◌≤◌}
use Rattle.vir_altset.proofs.NextLemmas.{IsClear}
use Rattle.vir_altset.proofs.alt_set.AltSet.first_after.Given as goal

abbrev pub invariant-loop-i : goal.invariant-loop-i
invariant-loop-i l = IsClear l.words l.x (64 * l.i) × (l.x ≤ 64 * l.i)
