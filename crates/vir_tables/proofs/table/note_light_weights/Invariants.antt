use Rattle.std.proofs.Common.{◌≡◌, ◌<◌, ◌+◌, drop, get_or, ℕ}
use Rattle.vir_profile.specs.Profiles.{total_weight}
use Rattle.vir_profile.specs.declared.ballot.Entry.{Entry}
use Rattle.vir_tables.proofs.table.note_light_weights.Given as goal

abbrev pub invariant-loop-l : goal.invariant-loop-l
invariant-loop-l l = record {
  sum : l.sum + total_weight (drop l.l l.lines) ≡ total_weight l.lines;
  noted : (k : ℕ) (line : Entry) → k < l.l → line ≡ get_or l.lines k line → get_or l.weights k 0 ≡ line.weight;
}
