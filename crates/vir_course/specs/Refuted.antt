-- What is said of a case against a rule, that is to show that the rule lacks a property.
use Rattle.std.specs.Prelude.{◌≡◌, ℕ, List, ◌++◌, codes}
use Rattle.vir_mean.specs.Meaning.{mean}
use Rattle.vir_mean.specs.Properties.{Holds}
use Rattle.vir_refute.specs.declared.verdict.CaseVerdict.TheVariants.{NotViolated}
use Rattle.vir_refute.specs.declared.verdict.Reason.{Reason}
use Rattle.vir_refute.specs.Cases.{Case}
use Rattle.vir_refute.specs.Judged.{IsVerdict}
use Rattle.vir_refute.specs.ReasonNames.{reason_name}
use Rattle.vir_refute.specs.Violations.{Violates}
use Rattle.vir_rules.specs.Claims.{of}
use Rattle.vir_rules.specs.Derivations.{Valid}
use Rattle.vir_rules.specs.RuleTrees.{RuleTree}
use Rattle.vir_term.specs.declared.prop.Prop.{Prop}
use Rattle.vir_term.specs.Tree.{Tree}

-- The case violates the property, and the text says so. So the property doesn't hold of the rule, and no derivation of
-- it is valid.
pub record IsViolation (term : Tree) (prop : Prop) (case : Case) (text : List ℕ) : Type 0 where
  pub violates : Violates prop (mean term) case
  pub false_of_it : Holds prop (mean term) → ⊥
  pub none_valid : (d : RuleTree) → Valid d (of prop term) → ⊥
  pub text_is : text ≡ codes "violated\n"

-- The case doesn't violate it, and the text gives the first reason why not.
pub record IsNoViolation (term : Tree) (prop : Prop) (case : Case) (text : List ℕ) : Type 0 where
  pub reason : Reason
  pub verdict : IsVerdict (NotViolated reason) prop (mean term) case
  pub text_is : text ≡ codes "not violated: " ++ reason_name reason ++ codes "\n"
