-- The members of a set as an array lists them.
-- (The program's promises don't stand on this file.)
use Rattle.std.specs.Prelude.{◌≡◌, ℕ, ◌<◌, ◌≤◌, true, List, length, slice_index}
use Rattle.std.specs.FinSet as set
use Rattle.vir_altset.specs.Sets.{Set, limit}
use Rattle.vir_profile.specs.Orders.{IsListing}

-- The list has each member of the set once; each is an alternative.
pub record AreMembers (a : Set) (list : List ℕ) : Type 0 where
  pub few : length list ≤ limit
  pub listing : IsListing a list
  pub each : (i : ℕ) → i < length list → (set.contains a (slice_index list i) ≡ true) × (1 ≤ slice_index list i)
      × (slice_index list i ≤ limit)
