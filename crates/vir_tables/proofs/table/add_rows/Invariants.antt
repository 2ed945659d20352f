use Rattle.std.proofs.Common.{◌≡◌, ◌+◌, ◌*◌, ◌≤◌, cond, length, nat_lt, ℕ}
use Rattle.vir_profile.specs.Profiles.{pairwise_weight}
use Rattle.vir_tables.specs.Table.{cell, IsAlternative}
use Rattle.vir_tables.proofs.table.add_rows.Given as goal

abbrev pub invariant-loop-x : goal.invariant-loop-x
invariant-loop-x l = record {
  size : length l.table ≡ l.m * l.m;
  cells : (a b : ℕ) → IsAlternative l.m a → IsAlternative l.m b → a ≤ b → cell l.table l.m a b
      ≡ cell l.initial.table l.m a b + cond (nat_lt a l.x) (pairwise_weight l.lines a b) 0;
}
