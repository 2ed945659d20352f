-- A report of a rule on a profile: its text, and what the lines on properties say.
use Rattle.std.specs.Prelude.{◌≡◌, ℕ, List, ◌++◌, All, codes, decimal, map}
use Rattle.std.specs.List.{flat_map}
use Rattle.vir_course.specs.Proved.{IsHeld, IsUnderived}
use Rattle.vir_altset.specs.Sets.{all}
use Rattle.vir_mean.specs.Meaning.{mean}
use Rattle.vir_profile.specs.declared.soc_file.Name.{Name}
use Rattle.vir_profile.specs.Profiles.{Votes, total_weight}
use Rattle.vir_profile.specs.SocFiles.{File}
use Rattle.vir_report.specs.ClaimTexts.{reasons_text}
use Rattle.vir_report.specs.ResultText.{result_text}
use Rattle.vir_rules.specs.Props.{prop_text}
use Rattle.vir_rules.specs.Reasons.{Reason}
use Rattle.vir_rules.specs.RuleTrees.{RuleTree}
use Rattle.vir_rules.specs.Texts.{derivation_text}
use Rattle.vir_term.specs.declared.prop.Prop.{Prop}
use Rattle.vir_term.specs.Props.{all_props}
use Rattle.vir_term.specs.Text.{term_text}
use Rattle.vir_term.specs.Tree.{Tree}

-- what is found of a property: a derivation, or the reasons against one
pub data Finding : Type 0 where
  holds : RuleTree → Finding
  underived : List Reason → Finding

-- a property, and what is found of it
pub record Found : Type 0 where
  pub prop : Prop
  pub finding : Finding

-- the text of what is found of a property
abbrev pub finding_text : Prop → Finding → List ℕ
finding_text prop (holds derivation) = codes "holds " ++ prop_text prop ++ codes " " ++ derivation_text derivation
    ++ codes "\n"
finding_text prop (underived reasons) = codes "underived " ++ prop_text prop ++ codes "\n" ++ reasons_text reasons

-- the text of what is found of properties
abbrev pub found_text : List Found → List ℕ
found_text found = flat_map (λ (f : Found). finding_text f.prop f.finding) found

-- the line of a name
abbrev pub name_line : Name → List ℕ
name_line name = codes "name " ++ decimal name.number ++ codes ": " ++ name.text ++ codes "\n"

-- the line of a rule
abbrev pub rule_line : Tree → List ℕ
rule_line term = codes "rule " ++ term_text term ++ codes "\n"

-- the lines of a profile
abbrev pub profile_lines : Votes → List ℕ
profile_lines votes = codes "alternatives " ++ decimal votes.alternatives ++ codes "\nvoters "
    ++ decimal (total_weight votes.lines) ++ codes "\n"

-- what stands before the result: the rule, and the profile with its names
abbrev pub head_text : Tree → File → List ℕ
head_text term file = rule_line term ++ profile_lines file.profile ++ flat_map name_line file.names

-- what a rule elects, rejects and defers of all alternatives of a profile, as a text
abbrev pub count_text : Tree → Votes → List ℕ
count_text rule votes = result_text (mean rule (all votes.alternatives) votes.lines)

-- the text of a report, by what is found of the properties
abbrev pub report_text : Tree → File → List Found → List ℕ
report_text term file found = head_text term file ++ count_text term file.profile ++ found_text found

-- The text is the report of a rule on a profile: each of the properties is told of, in their order; a property that is
-- told to hold has a derivation, the first one, which is told, and holds of what the rule means; and one that is told
-- to be underived has none, and what is told are the reasons.
pub record Reported (term : Tree) (file : File) (text : List ℕ) : Type 0 where
  pub found : List Found
  pub in_order : map (λ (f : Found). f.prop) found ≡ all_props
  pub held : All (λ (f : Found). (derivation : RuleTree) → f.finding ≡ holds derivation → IsHeld term f.prop derivation)
      found
  pub underived : All (λ (f : Found). (reasons : List Reason) → f.finding ≡ underived reasons → IsUnderived term f.prop
      reasons) found
  pub text_is : text ≡ report_text term file found
