use Rattle.std.proofs.Common.{◌≡◌, drop}
use Rattle.std.specs.List.{find}
use Rattle.vir_tables.specs.Marks.{is_marked}
use Rattle.vir_tables.proofs.first_places.first_marked.Given as goal

abbrev pub invariant-loop-i : goal.invariant-loop-i
invariant-loop-i l = find (is_marked l.marks) l.order ≡ find (is_marked l.marks) (drop l.i l.order)
