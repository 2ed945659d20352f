use Rattle.std.proofs.Common.{length}
use Rattle.vir_counting.proofs.drills.+first_unserved_of.Given as goal

abbrev pub decreases-first_unserved_of : goal.decreases-first_unserved_of
decreases-first_unserved_of g l = length l.terms.now
