use Rattle.std.proofs.Common.{length}
use Rattle.vir_tables.specs.Places.{ArePlaces}
use Rattle.vir_tables.proofs.table.find_all.Given as goal

abbrev pub invariant-loop-l : goal.invariant-loop-l
invariant-loop-l l = ArePlaces l.m (length l.lines) l.l l.places l.lines
