-- What is added to a table of pairs.
-- (The program's promises don't stand on this file.)
use Rattle.std.specs.Prelude.{◌≡◌, ℕ, zero, suc, ◌+◌, ◌<◌, List, length, slice_index, get_or, nat_lt, if◌then◌else◌}
use Rattle.vir_profile.specs.declared.ballot.Entry.{Entry}
use Rattle.vir_tables.specs.Table.{IsAlternative}

-- Each number of the order is one of the alternatives from 1 to m.
pub record AreAlternatives (m : ℕ) (order : List ℕ) : Type 0 where
  pub each : (i : ℕ) → i < length order → IsAlternative m (slice_index order i)

-- The weight of each line is noted at its place.
pub record AreWeights (weights : List ℕ) (lines : List Entry) : Type 0 where
  pub at : (l : ℕ) (line : Entry) → l < length lines → line ≡ get_or lines l line → slice_index weights l ≡ line.weight

-- Of the first n lines, the weight of those that have the first alternative at a lower place than the second.
abbrev pub weight_before : ℕ → List ℕ → List ℕ → List ℕ → ℕ
weight_before zero first second weights = 0
weight_before (suc n) first second weights = weight_before n first second weights
    + (if nat_lt (slice_index first n) (slice_index second n) then slice_index weights n else 0)
