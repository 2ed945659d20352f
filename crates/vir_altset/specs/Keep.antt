-- What a test keeps of a set.
-- (The program's promises don't stand on this file.)
use Rattle.std.specs.Prelude.{◌≡◌, ℕ, Bool, true, false}
use Rattle.std.specs.FinSet as set
use Rattle.vir_altset.specs.Sets.{Set}

-- kept has the members of a of which the test told true: of each member it told whether kept has it, and nothing else
-- is in kept
pub record IsKept (a kept : Set) (Told : ℕ → Bool → Type 0) : Type 0 where
  pub told : (x : ℕ) → set.contains a x ≡ true → Told x (set.contains kept x)
  pub part : (x : ℕ) → set.contains a x ≡ false → set.contains kept x ≡ false
