use Rattle.std.proofs.Common.{◌≡◌, drop}
use Rattle.std.specs.List.{find}
use Rattle.vir_tables.specs.Pairs.{is_one_of}
use Rattle.vir_tables.proofs.pairs.first_of_two.Given as goal

abbrev pub invariant-loop-i : goal.invariant-loop-i
invariant-loop-i l = find (is_one_of l.x l.y) l.order ≡ find (is_one_of l.x l.y) (drop l.i l.rest)
