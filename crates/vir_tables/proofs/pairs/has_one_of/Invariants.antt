use Rattle.std.proofs.Common.{◌≡◌, take}
use Rattle.std.specs.List.{list_any}
use Rattle.vir_tables.specs.Pairs.{is_one_of}
use Rattle.vir_tables.proofs.pairs.has_one_of.Given as goal

abbrev pub invariant-loop-i : goal.invariant-loop-i
invariant-loop-i l = l.has ≡ list_any (is_one_of l.x l.y) (take l.i l.places)
