use Rattle.std.proofs.Common.{◌≡◌, ◌+◌, ◌-◌, ◌≤◌, [], length, drop}
use Rattle.vir_batch.specs.Manifest.{lines, with_lines}
use Rattle.vir_batch.proofs.manifest.read_lines.Given as goal

-- the names so far, and behind them those of what is left
abbrev pub invariant-loop-at : goal.invariant-loop-at
invariant-loop-at l = (with_lines l.names l.at (lines (drop l.at l.text)) ≡ with_lines [] 0 (lines l.text))
    × (l.at ≤ length l.text + 1)

abbrev pub decreases-loop-at : goal.decreases-loop-at
decreases-loop-at l = length l.text + 1 - l.at
