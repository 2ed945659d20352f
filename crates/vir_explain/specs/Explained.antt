-- What a text says that explains a result.
use Rattle.std.specs.Prelude.{◌≡◌, ℕ, List, ◌++◌}
use Rattle.vir_altset.specs.Sets.{Set}
use Rattle.vir_altset.specs.declared.split.Split.{Split}
use Rattle.vir_profile.specs.declared.ballot.Entry.{Entry}
use Rattle.vir_term.specs.Tree.{Tree}
use Rattle.vir_explain.specs.Visits.{Visit}
use Rattle.vir_explain.specs.Accounts.{Accounts, AreScored}
use Rattle.vir_explain.specs.Legible.{AreLegible}
use Rattle.vir_explain.specs.VisitTexts.{visits_text}

-- Behind a text, the paragraphs of visits were told that account for this split of the set, and whose scores are right.
-- These are the only visits of the rule that can be read there.
pub record Explains (t : Tree) (p : List Entry) (a : Set) (before after : List ℕ) (s : Split) : Type 0 where
  pub visits : List Visit
  pub accounts : Accounts 0 t a visits s
  pub scored : AreScored p visits
  pub told : after ≡ before ++ visits_text visits
  pub only : (others : List Visit) → AreLegible t others → after ≡ before ++ visits_text others → others ≡ visits
