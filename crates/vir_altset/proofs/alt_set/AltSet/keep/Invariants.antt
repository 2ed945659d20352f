use Rattle.vir_altset.proofs.KeepLemmas.{KeptBelow}
use Rattle.vir_altset.proofs.alt_set.AltSet.keep.Given as goal

abbrev pub invariant-loop-x : goal.invariant-loop-x
invariant-loop-x g l = KeptBelow l.self l.kept (λ x b. g.F.Fn.post l.test (x, tt) b) l.x
