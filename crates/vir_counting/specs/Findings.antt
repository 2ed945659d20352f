-- What is told of properties, one after another, while a report is made.
-- (The program's promises don't stand on this file.)
use Rattle.std.specs.Prelude.{◌≡◌, ℕ, List, All, map}
use Rattle.vir_course.specs.Reports.{Finding, Found, holds, underived, finding_text, report_text}
use Rattle.vir_course.specs.Tellings.{TellsEach}
use Rattle.vir_profile.specs.SocFiles.{File}
use Rattle.vir_rules.specs.Claims.{Claim, of}
use Rattle.vir_rules.specs.Derivations.{Derivable, IsFirst}
use Rattle.vir_rules.specs.Reasons.{AreReasons}
use Rattle.vir_term.specs.declared.prop.Prop.{Prop}
use Rattle.vir_term.specs.Props.{all_props}
use Rattle.vir_term.specs.Tree.{Tree}

-- What is found of a claim is so: the first derivation, or, where there is none, each rule that fits with its first
-- premise that has none.
abbrev pub IsFinding : Claim → Finding → Type 0
IsFinding c (holds derivation) = IsFirst derivation c
IsFinding c (underived reasons) = (Derivable c → ⊥) × AreReasons c reasons

-- What is found of a property of this rule is so.
abbrev pub IsSo : Tree → Found → Type 0
IsSo term f = IsFinding (of f.prop term) f.finding

-- Behind a text, it is told of these properties, in their order, what is so.
abbrev pub TellsOf : Tree → List Prop → List ℕ → List ℕ → Type 0
TellsOf = TellsEach (λ (f : Found). f.prop) IsSo (λ (f : Found). finding_text f.prop f.finding)

-- The text is the report of a rule on a profile: of each property, in their order, it tells what is so.
pub record IsReport (term : Tree) (file : File) (text : List ℕ) : Type 0 where
  pub found : List Found
  pub in_order : map (λ (f : Found). f.prop) found ≡ all_props
  pub are_so : All (IsSo term) found
  pub text_is : text ≡ report_text term file found
