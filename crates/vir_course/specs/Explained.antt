-- What is said of how a rule comes to its result on a profile.
use Rattle.std.specs.Prelude.{◌≡◌, ◌≤◌, ℕ, List, ◌++◌, codes, length}
use Rattle.vir_altset.specs.Sets.{all}
use Rattle.vir_course.specs.Reports.{head_text}
use Rattle.vir_explain.specs.Explained.{Explains}
use Rattle.vir_explain.specs.TextLimits.{text_limit, IsTooLong}
use Rattle.vir_explain.specs.VisitTexts.{explained_text}
use Rattle.vir_mean.specs.Meaning.{mean}
use Rattle.vir_profile.specs.SocFiles.{File}
use Rattle.vir_term.specs.Tree.{Tree}

-- the whole text: the rule, the profile with its names, and then each visit of the rule on all alternatives
abbrev pub explain_text : Tree → File → List ℕ
explain_text term file =
    head_text term file ++ explained_text term file.profile.lines (all file.profile.alternatives)

-- The text is that one, and no longer than a text may be. Behind its head stand the visits of an account of what the
-- rule means, and their scores are right.
pub record IsExplanation (term : Tree) (file : File) (text : List ℕ) : Type 0 where
  pub text_is : text ≡ explain_text term file
  pub short : length text ≤ text_limit
  pub explains : Explains term file.profile.lines (all file.profile.alternatives) (head_text term file) text
      (mean term (all file.profile.alternatives) file.profile.lines)

-- That text would be longer, and this is told.
pub record IsUnexplained (term : Tree) (file : File) (text : List ℕ) : Type 0 where
  pub long : IsTooLong (explain_text term file)
  pub text_is : text ≡ codes "explanation too long\n"
