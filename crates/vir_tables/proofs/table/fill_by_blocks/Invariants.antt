use Rattle.std.proofs.Common.{◌≡◌, ◌+◌, ◌-◌, ◌*◌, ◌≤◌, drop, length, ℕ}
use Rattle.vir_profile.specs.Profiles.{pairwise_weight}
use Rattle.vir_tables.specs.Table.{cell, IsAlternative}
use Rattle.vir_tables.proofs.table.fill_by_blocks.Given as goal

abbrev pub decreases-loop-start : goal.decreases-loop-start
decreases-loop-start l = length l.lines - l.start

abbrev pub invariant-loop-start : goal.invariant-loop-start
invariant-loop-start l = record {
  start : l.start ≤ length l.lines;
  size : length l.table ≡ l.m * l.m;
  places : length l.places ≡ length l.initial.places;
  cells : (a b : ℕ) → IsAlternative l.m a → IsAlternative l.m b → a ≤ b → cell l.table l.m a b
      + pairwise_weight (drop l.start l.lines) a b ≡ pairwise_weight l.lines a b;
}
