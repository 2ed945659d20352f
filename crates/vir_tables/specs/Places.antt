-- At which place of an order each alternative stands.
-- (The program's promises don't stand on this file.)
use Rattle.std.specs.Prelude.{◌≡◌, ℕ, ◌+◌, ◌-◌, ◌*◌, ◌<◌, ◌≤◌, List, length, slice_index, get_or}
use Rattle.vir_profile.specs.declared.ballot.Entry.{Entry}
use Rattle.vir_tables.specs.Table.{IsAlternative}

-- What is noted at i is a place where the order has x.
pub record HasPlace (order places : List ℕ) (i x : ℕ) : Type 0 where
  pub within : slice_index places i < length order
  pub here : slice_index order (slice_index places i) ≡ x

-- So many places are enough for a row of n places for each alternative of the order.
pub record HaveRows (n size : ℕ) (order : List ℕ) : Type 0 where
  pub low : (i : ℕ) → i < length order → 1 ≤ slice_index order i
  pub high : (i : ℕ) → i < length order → slice_index order i * n ≤ size

-- For each alternative, n places are noted, one alternative after another: for each of the first k lines, where
-- the line has it.
pub record ArePlaces (m n k : ℕ) (places : List ℕ) (lines : List Entry) : Type 0 where
  pub at : (l x : ℕ) (line : Entry) → l < k → line ≡ get_or lines l line → IsAlternative m x
      → HasPlace line.order places ((x - 1) * n + l) x
