-- The Condorcet winner.
use Rattle.std.specs.Prelude.{◌≡◌, ◌≢◌, ℕ, ◌<◌, true, List}
use Rattle.std.specs.FinSet as set
use Rattle.vir_altset.specs.Sets.{Set}
use Rattle.vir_profile.specs.declared.ballot.Entry.{Entry}
use Rattle.vir_profile.specs.Profiles.{pairwise_weight}

-- w wins against each other member of the set: more voters put w before it than it before w.
pub record IsCondorcetWinner (w : ℕ) (a : Set) (lines : List Entry) : Type 0 where
  pub member : set.contains a w ≡ true
  pub wins : (y : ℕ) → set.contains a y ≡ true → y ≢ w → pairwise_weight lines y w < pairwise_weight lines w y
