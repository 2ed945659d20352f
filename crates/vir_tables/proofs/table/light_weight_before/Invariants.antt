use Rattle.std.proofs.Common.{◌≡◌}
use Rattle.vir_tables.specs.Additions.{weight_before}
use Rattle.vir_tables.proofs.table.light_weight_before.Given as goal

abbrev pub invariant-loop-l : goal.invariant-loop-l
invariant-loop-l l = l.sum ≡ weight_before l.l l.first l.second l.weights
