use Rattle.std.proofs.Common.{◌≡◌, ◌<◌, get_or, ℕ}
use Rattle.vir_profile.specs.declared.ballot.Entry.{Entry}
use Rattle.vir_tables.proofs.table.note_weights.Given as goal

abbrev pub invariant-loop-l : goal.invariant-loop-l
invariant-loop-l l = (k : ℕ) (line : Entry) → k < l.l → line ≡ get_or l.lines k line
    → get_or l.weights k 0 ≡ line.weight
