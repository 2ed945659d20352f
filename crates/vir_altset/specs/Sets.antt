-- Sets of alternatives, which are the numbers from 1 on.
use Rattle.std.specs.Prelude.{◌≡◌, ℕ, zero, suc, ◌<◌, ◌≤◌, true, false}
use Rattle.std.specs.Ordering.{nat_cmp}
use Rattle.std.specs.FinSet as set

-- a finite set of numbers
abbrev pub Set : Type 0
Set = set.FinSet nat_cmp

-- the greatest alternative
abbrev pub limit : ℕ
limit = 1024

-- the numbers 1 to m
unfoldable pub all : ℕ → Set
all zero = set.empty
all (suc m) = set.insert (all m) (suc m)

-- no member of a is above x
abbrev pub IsLast : Set → ℕ → Type 0
IsLast a x = (y : ℕ) → x < y → set.contains a y ≡ false

-- y is the least member of a above x
pub record IsNext (a : Set) (x y : ℕ) : Type 0 where
  pub above : x < y
  pub member : set.contains a y ≡ true
  pub least : (z : ℕ) → x < z → z < y → set.contains a z ≡ false

-- each member of a is an alternative, from 1 to the limit
pub record IsBounded (a : Set) : Type 0 where
  pub within : (x : ℕ) → set.contains a x ≡ true → (1 ≤ x) × (x ≤ limit)

-- each member of d is a member of a
abbrev pub IsPart : Set → Set → Type 0
IsPart d a = (x : ℕ) → set.contains d x ≡ true → set.contains a x ≡ true
