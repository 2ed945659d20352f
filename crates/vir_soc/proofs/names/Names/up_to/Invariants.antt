use Rattle.std.proofs.Common.{◌≡◌, ◌++◌}
use Rattle.vir_soc.specs.Names.{names_up_to}
use Rattle.vir_soc.proofs.names.Names.up_to.Given as goal

-- the names so far, and those that are left
abbrev pub invariant-loop-number : goal.invariant-loop-number
invariant-loop-number l = l.list.items ++ names_up_to l.m l.number-iterator ≡ names_up_to l.m l.fn.self
