-- Visits that a text can be read to tell.
use Rattle.std.specs.Prelude.{◌≡◌, ℕ, suc, ◌<◌, ◌^◌, List, Some, None, ℤ, pos, negsuc}
use Rattle.std.specs.List.{AllByRecursion}
use Rattle.std.specs.declared.option.Option.{Option}
use Rattle.vir_altset.specs.Sets.{IsBounded}
use Rattle.vir_term.specs.Tree.{Tree}
use Rattle.vir_simplify.specs.Places.{subterm_at}
use Rattle.vir_explain.specs.Visits.{Scored, Visit}

-- A number has at most 64 digits.
abbrev pub IsShort : ℕ → Type 0
IsShort n = n < 10 ^ 64

-- So has a whole number without its sign.
abbrev pub IsShortWhole : ℤ → Type 0
IsShortWhole (pos n) = IsShort n
IsShortWhole (negsuc n) = IsShort (suc n)

-- So have the numbers of a score.
abbrev pub IsShortScore : Scored → Type 0
IsShortScore s = IsShort s.member × IsShortWhole s.value

-- So have those of scores, where there are scores.
abbrev pub AreShortScores : Option (List Scored) → Type 0
AreShortScores (Some list) = AllByRecursion IsShortScore list
AreShortScores None = Unit {0}

-- A visit that a text of this rule may tell: of the subterm that stands at its place, with sets of alternatives and
-- with numbers of at most 64 digits.
pub record IsLegible (rule : Tree) (v : Visit) : Type 0 where
  pub stands : subterm_at rule v.place ≡ Some v.term
  pub place : IsShort v.place
  pub domain : IsBounded v.domain
  pub scores : AreShortScores v.scores
  pub elected : IsBounded v.split.elected
  pub rejected : IsBounded v.split.rejected
  pub deferred : IsBounded v.split.deferred

-- All of them are such visits.
abbrev pub AreLegible : Tree → List Visit → Type 0
AreLegible rule visits = AllByRecursion (IsLegible rule) visits
