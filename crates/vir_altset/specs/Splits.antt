-- Splits of a set.
use Rattle.std.specs.Prelude.{◌≡◌, ℕ, ◌+◌, Bool, true, false}
use Rattle.std.specs.FinSet as set
use Rattle.vir_altset.specs.Sets.{Set}
use Rattle.vir_altset.specs.declared.split.Split.{Split}

-- a truth value as a number
abbrev pub bit : Bool → ℕ
bit true = 1
bit false = 0

-- each member of a is in just one of the three sets, and these have no other members
pub record IsSplitOf (a : Set) (s : Split) : Type 0 where
  pub parts : (x : ℕ) → bit (set.contains s.elected x) + bit (set.contains s.rejected x)
      + bit (set.contains s.deferred x) ≡ bit (set.contains a x)
