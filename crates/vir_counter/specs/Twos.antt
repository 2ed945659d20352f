-- Sets of two alternatives.
-- (The program's promises don't stand on this file.)
use Rattle.std.specs.Prelude.{◌≡◌, ℕ, ◌||◌, false, nat_eq}
use Rattle.std.specs.FinSet as set
use Rattle.vir_altset.specs.Sets.{Set}

-- the set has these two members, and no other
pub record IsTwo (a : Set) (x y : ℕ) : Type 0 where
  pub apart : nat_eq x y ≡ false
  pub members : (z : ℕ) → set.contains a z ≡ (nat_eq z x || nat_eq z y)
