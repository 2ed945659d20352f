-- Tables with a number for each ordered pair of the alternatives from 1 to m: a row for each of them, and
-- in it a place for each.
-- (The program's promises don't stand on this file.)
use Rattle.std.specs.Prelude.{◌≡◌, ℕ, ◌+◌, ◌-◌, ◌*◌, ◌≤◌, List, length, slice_index}
use Rattle.vir_profile.specs.Profiles.{pairwise_weight}
use Rattle.vir_profile.specs.declared.ballot.Entry.{Entry}

-- x is one of the alternatives from 1 to m.
pub record IsAlternative (m x : ℕ) : Type 0 where
  pub low : 1 ≤ x
  pub high : x ≤ m

-- the place of the pair of x and y
abbrev pub index : ℕ → ℕ → ℕ → ℕ
index m x y = (x - 1) * m + (y - 1)

-- the number of the pair of x and y
abbrev pub cell : List ℕ → ℕ → ℕ → ℕ → ℕ
cell table m x y = slice_index table (index m x y)

-- The table has for each pair what f gives.
pub record Holds (m : ℕ) (table : List ℕ) (f : ℕ → ℕ → ℕ) : Type 0 where
  pub at : (x y : ℕ) → IsAlternative m x → IsAlternative m y → cell table m x y ≡ f x y

-- The table has for each pair what f gives, where the first alternative isn't greater than the second.
pub record HoldsFrom (m : ℕ) (table : List ℕ) (f : ℕ → ℕ → ℕ) : Type 0 where
  pub at : (x y : ℕ) → IsAlternative m x → IsAlternative m y → x ≤ y → cell table m x y ≡ f x y

-- The table has for each pair how many voters put the first before the second.
pub record IsTable (m : ℕ) (table : List ℕ) (lines : List Entry) : Type 0 where
  pub size : length table ≡ m * m
  pub weights : Holds m table (pairwise_weight lines)
