use Rattle.std.proofs.Common.{◌≡◌, drop, [], None}
use Rattle.vir_term.specs.Orders.{order_fault}
use Rattle.vir_read.specs.RawTrees.{listed}
use Rattle.vir_read.specs.Arguments.{with_members}
use Rattle.vir_read.proofs.arguments.order_of_members.Given as goal

abbrev pub invariant-loop-i : goal.invariant-loop-i
invariant-loop-i l =
    record {
      same : with_members l.text l.list.items (drop l.i (listed l.members)) ≡ with_members l.text []
          (listed l.members);
      faultless : order_fault l.list.items ≡ None;
    }
