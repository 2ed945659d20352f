-- What is promised of a report: the headline of the program.
use Rattle.std.specs.Prelude.{◌≡◌, ℕ, List, Ok}
use Rattle.std.specs.declared.option.Option.{Option}
use Rattle.std.specs.Io.KnownBytes.{Appends}
use Rattle.vir_course.specs.Reports.{Reported}
use Rattle.vir_files.specs.Contents.{AreContents, Contents}
use Rattle.vir_files.specs.Readings.{profile_at, rule_at}
use Rattle.vir_outside.specs.Shelf.{Files}
use Rattle.vir_profile.specs.SocFiles.{File}
use Rattle.vir_term.specs.Tree.{Tree}

-- The one file says a rule and the other a profile, and the report of these is appended: it has the meaning of the rule
-- on the profile, what it tells to hold is true of that, and what it tells to be underived has no derivation.
pub record ReportPrinted (files : Option Files) (rule profile : List ℕ) (old new : Option (List ℕ)) : Type 0 where
  pub contents : Contents
  pub are_contents : AreContents files contents
  pub term : Tree
  pub is_rule : (rule_at contents 0 rule).end ≡ Ok term
  pub file : File
  pub is_profile : (profile_at contents 1 profile).end ≡ Ok file
  pub bytes : List ℕ
  pub reported : Reported term file bytes
  pub appended : Appends old new bytes
