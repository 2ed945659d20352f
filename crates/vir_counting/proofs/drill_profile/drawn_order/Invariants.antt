use Rattle.std.proofs.Common.{◌≡◌, ◌+◌, ◌-◌, ◌≤◌, length}
use Rattle.vir_counting.specs.Drill.{drawn_from}
use Rattle.vir_counting.proofs.drill_profile.drawn_order.Given as goal

abbrev pub invariant-loop-j : goal.invariant-loop-j
invariant-loop-j l = record {
  order : l.order.items ≡ (drawn_from l.fn.draws.state (l.j - 1)).order;
  state : l.draws.state ≡ (drawn_from l.fn.draws.state (l.j - 1)).state;
  placed : length l.order.items ≡ l.j - 1;
  within : l.j ≤ l.alternatives + 1;
}
