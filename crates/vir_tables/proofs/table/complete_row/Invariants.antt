use Rattle.std.proofs.Common.{◌≡◌, ◌-◌, ◌*◌, cond, length, nat_eq, nat_lt, ℕ}
use Rattle.vir_tables.specs.Table.{cell, IsAlternative}
use Rattle.vir_tables.proofs.table.complete_row.Given as goal

abbrev pub invariant-loop-y : goal.invariant-loop-y
invariant-loop-y l = record {
  size : length l.table ≡ l.m * l.m;
  cells : (a b : ℕ) → IsAlternative l.m a → IsAlternative l.m b → cell l.table l.m a b ≡ cond (nat_eq a l.x)
      (cond (nat_lt b l.y) (l.voters - cell l.initial.table l.m b l.x) (cell l.initial.table l.m a b))
      (cell l.initial.table l.m a b);
}
