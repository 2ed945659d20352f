-- Numbers kept for each alternative, that of x at place x - 1.
-- (The program's promises don't stand on this file.)
use Rattle.std.specs.Prelude.{◌≡◌, ℕ, ◌+◌, ◌-◌, ◌*◌, ◌^◌, ◌≤◌, true, List, length, slice_index, slice_index_or, ℤ, pos}
use Rattle.std.specs.Prelude.{◌+ℤ◌, ◌≤ℤ◌}
use Rattle.std.specs.FinSet as set
use Rattle.vir_altset.specs.Sets.{Set, limit}

-- the number that is kept for x
abbrev pub number_of : List ℕ → ℕ → ℕ
number_of numbers x = slice_index numbers (x - 1)

-- The numbers are, for each alternative, what f gives.
pub record AreNumbers (f : ℕ → ℕ) (numbers : List ℕ) : Type 0 where
  pub size : length numbers ≡ limit
  pub each : (x : ℕ) → 1 ≤ x → x ≤ limit → number_of numbers x ≡ f x

-- the score that is kept for x
abbrev pub score_of : List ℤ → ℕ → ℤ
score_of scores x = slice_index_or scores (x - 1) (pos 0)

-- The scores are, for each member of the set, what f gives.
pub record AreScores (a : Set) (f : ℕ → ℤ) (scores : List ℤ) : Type 0 where
  pub size : length scores ≡ limit
  pub each : (x : ℕ) → set.contains a x ≡ true → score_of scores x ≡ f x

-- a whole number of at most b, also below 0
pub record IsWithin (b : ℕ) (z : ℤ) : Type 0 where
  pub low : pos 0 ≤ℤ (z +ℤ pos b)
  pub high : z ≤ℤ pos b

-- no score is greater than this, also below 0
abbrev pub score_bound : ℕ
score_bound = 1000000 * 2 ^ 64

-- Each member's score is within that bound.
pub record AreSmall (a : Set) (scores : List ℤ) : Type 0 where
  pub each : (x : ℕ) → set.contains a x ≡ true → IsWithin score_bound (score_of scores x)
