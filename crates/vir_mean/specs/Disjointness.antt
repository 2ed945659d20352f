-- When two meanings look at different alternatives.
-- (The program's promises don't stand on this file.)
use Rattle.std.specs.Prelude.{◌≡◌, ◌⊎◌, ℕ, true, List}
use Rattle.std.specs.FinSet as set
use Rattle.vir_altset.specs.Sets.{Set}
use Rattle.vir_profile.specs.declared.ballot.Entry.{Entry}
use Rattle.vir_profile.specs.Elections.{IsElection}
use Rattle.vir_mean.specs.Lifts.{SameBut}
use Rattle.vir_mean.specs.Modules.{Meaning}

-- b is free on the set: it is rejected whatever the profile, and where it stands makes no difference.
pub record IsFree (m : Meaning) (a : Set) (b : ℕ) : Type 0 where
  pub rejected : (p : List Entry) → IsElection a p → set.contains (m a p).rejected b ≡ true
  pub ignored : (p q : List Entry) → IsElection a p → IsElection a q → SameBut b p q → m a p ≡ m a q

-- On every set each member is free for one of the two.
abbrev pub AreDisjoint : Meaning → Meaning → Type 0
AreDisjoint m n = (a : Set) (b : ℕ) → set.contains a b ≡ true → IsFree m a b ⊎ IsFree n a b
