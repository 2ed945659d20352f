use Rattle.std.proofs.Common.{◌≡◌, ◌≤◌, ◌*◌}
use Rattle.std.specs.FinSet as set
use Rattle.vir_altset.proofs.PassingLemmas.{passing}
use Rattle.vir_altset.specs.Words.{has_bit}
use Rattle.vir_altset.proofs.alt_set.AltSet.count.Given as goal

abbrev pub invariant-loop-i : goal.invariant-loop-i
invariant-loop-i l = (l.n ≡ set.len (passing (64 * l.i) (has_bit l.self-inside.words))) × (l.n ≤ 64 * l.i)
