-- Profiles on sets of alternatives, which are the numbers from 1 on.
use Rattle.std.specs.Prelude.{◌≡◌, false, List}
use Rattle.std.specs.FinSet as set
use Rattle.vir_altset.specs.Sets.{Set}
use Rattle.vir_profile.specs.declared.ballot.Entry.{Entry}
use Rattle.vir_profile.specs.Profiles.{IsProfileOn}

-- The set has alternatives alone, and the lines are a profile on it.
pub record IsElection (a : Set) (lines : List Entry) : Type 0 where
  pub positive : set.contains a 0 ≡ false
  pub lists : IsProfileOn a lines
