use Rattle.std.proofs.Common.{◌≡◌, ◌+◌, ◌-◌, ◌<◌, ◌≤◌, get_or, ℕ}
use Rattle.vir_profile.specs.Profiles.{pairwise_weight}
use Rattle.vir_tables.proofs.table.add_row.Given as goal

abbrev pub invariant-loop-y : goal.invariant-loop-y
invariant-loop-y l = record {
  done : (b : ℕ) → l.x ≤ b → b ≤ l.y
      → get_or l.row (b - 1) 0 ≡ get_or l.initial.row (b - 1) 0 + pairwise_weight l.lines l.x b;
  left : (b : ℕ) → l.y < b → get_or l.row (b - 1) 0 ≡ get_or l.initial.row (b - 1) 0;
}
