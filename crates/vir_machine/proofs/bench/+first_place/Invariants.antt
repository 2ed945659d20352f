use Rattle.std.proofs.Common.{length}
use Rattle.vir_machine.proofs.bench.+first_place.Given as goal

abbrev pub decreases-first_place : goal.decreases-first_place
decreases-first_place g l = length l.counters.now
