-- The texts that a call may have to print, and what each must say.
use Rattle.std.specs.Prelude.{◌≡◌, ℕ, List}
use Rattle.vir_course.specs.declared.answer.Answer.{Answer}
use Rattle.vir_course.specs.declared.answer.Answer.TheVariants as answer
use Rattle.vir_cert.specs.Certs.{Cert}
use Rattle.vir_course.specs.Certified.{IsAccepted, IsCertified, IsDenied, IsRefused}
use Rattle.vir_course.specs.Explained.{IsExplanation, IsUnexplained}
use Rattle.vir_course.specs.Refuted.{IsNoViolation, IsViolation}
use Rattle.vir_course.specs.Reports.{Reported}
use Rattle.vir_course.specs.Simplified.{IsSimplified}
use Rattle.vir_course.specs.Synthesized.{IsFound, IsNone}
use Rattle.vir_profile.specs.SocFiles.{File}
use Rattle.vir_refute.specs.Cases.{Case}
use Rattle.vir_term.specs.declared.leaf.Leaf.{Leaf}
use Rattle.vir_term.specs.declared.prop.Prop.{Prop}
use Rattle.vir_term.specs.Tree.{Tree}

-- What is printed: a text that was asked for, or a denial, which says why it can't be had.
pub data Reply : Type 0 where
  prints : List ℕ → Reply
  denies : List ℕ → Reply

-- an answer of the code
abbrev pub reply_of : Answer → Reply
reply_of (answer.Text bytes) = prints bytes.items
reply_of (answer.Denial bytes) = denies bytes.items

-- What a call is to print.
pub data Wording : Type 0 where
  -- this text
  exactly : List ℕ → Wording
  -- a report of a rule on a profile with names
  report_of : Tree → File → Wording
  -- a certificate of a property of a rule, or a denial with the reasons
  proof_of : Tree → Prop → Wording
  -- that a certificate is accepted, or a denial with its first bad node
  verdict_on : Cert → Wording
  -- the first rule up to a size with these properties that is composed of these modules, or a denial
  first_with : ℕ → List Prop → List Leaf → Wording
  -- that a case violates a property of a rule, or a denial with the reason why it doesn't
  case_against : Tree → Prop → Case → Wording
  -- what a rule is simplified to, and the steps
  simple_of : Tree → Wording
  -- how a rule comes to its result on a profile with names, or a denial, where that text is too long
  explanation_of : Tree → File → Wording

-- The reply is such a text, and what it affirms is so.
abbrev pub IsWorded : Wording → Reply → Type 0
IsWorded (exactly bytes) (prints told) = told ≡ bytes
IsWorded (exactly bytes) (denies told) = ⊥
IsWorded (report_of term file) (prints told) = Reported term file told
IsWorded (report_of term file) (denies told) = ⊥
IsWorded (proof_of term prop) (prints told) = IsCertified term prop told
IsWorded (proof_of term prop) (denies told) = IsDenied term prop told
IsWorded (verdict_on cert) (prints told) = IsAccepted cert told
IsWorded (verdict_on cert) (denies told) = IsRefused cert told
IsWorded (first_with size props modules) (prints told) = IsFound size props modules told
IsWorded (first_with size props modules) (denies told) = IsNone size props modules told
IsWorded (case_against term prop case) (prints told) = IsViolation term prop case told
IsWorded (case_against term prop case) (denies told) = IsNoViolation term prop case told
IsWorded (simple_of term) (prints told) = IsSimplified term told
IsWorded (simple_of term) (denies told) = ⊥
IsWorded (explanation_of term file) (prints told) = IsExplanation term file told
IsWorded (explanation_of term file) (denies told) = IsUnexplained term file told

-- So it is of an answer of the code.
abbrev pub Tells : Wording → Answer → Type 0
Tells wording given = IsWorded wording (reply_of given)
