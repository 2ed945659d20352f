-- What is handed in as a suspected counterexample, on sets and profiles of any size.
use Rattle.std.specs.Prelude.{◌≡◌, ℕ, true, List}
use Rattle.std.specs.FinSet as set
use Rattle.vir_altset.specs.Sets.{Set}
use Rattle.vir_profile.specs.declared.ballot.Entry.{Entry}
use Rattle.vir_profile.specs.Elections.{IsElection}
use Rattle.vir_mean.specs.Lifts.{Lifts}
use Rattle.vir_mean.specs.Modules.{Meaning}
use Rattle.vir_mean.specs.Neutrality.{IsRenaming, renamed_set, renamed_lines}
use Rattle.vir_altset.specs.declared.split.Split.{Split}

-- a set of alternatives, and lines of votes on it
pub record Election : Type 0 where
  pub members : Set
  pub lines : List Entry

-- one election, or two and the alternative that is said to be lifted from the first to the second, or one and a new
-- name for each alternative
pub data Case : Type 0 where
  one : Election → Case
  pair : Election → Election → ℕ → Case
  renamed : Election → (ℕ → ℕ) → Case

-- the split that a meaning gives of an election
abbrev pub split_by : Meaning → Election → Split
split_by m e = m e.members e.lines

-- the election with f of each alternative
abbrev pub under : (ℕ → ℕ) → Election → Election
under f e = record { members = renamed_set f e.members; lines = renamed_lines f e.lines }

-- The lines of each election of the case are a profile on its set.
abbrev pub AreElections : Case → Type 0
AreElections (one e) = IsElection e.members e.lines
AreElections (pair e f x) = IsElection e.members e.lines × IsElection f.members f.lines
AreElections (renamed e f) = IsElection e.members e.lines

-- The second election is the first one, with x lifted.
pub record IsLift (e f : Election) (x : ℕ) : Type 0 where
  pub same : e.members ≡ f.members
  pub member : set.contains e.members x ≡ true
  pub lifted : Lifts x e.lines f.lines

-- The case is one election, or a lift, or its new names are those of a renaming.
abbrev pub IsOneOrLift : Case → Type 0
IsOneOrLift (one e) = Unit {0}
IsOneOrLift (pair e f x) = IsLift e f x
IsOneOrLift (renamed e f) = IsRenaming f e.members
