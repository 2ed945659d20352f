-- What is said of a property of a rule by a certificate, or in its place; and what is said of a certificate.
use Rattle.std.specs.Prelude.{◌≡◌, ℕ, List, ◌++◌, Some, codes, decimal, min}
use Rattle.vir_cert.specs.Certs.{Cert}
use Rattle.vir_cert.specs.Texts.{cert_text}
use Rattle.vir_course.specs.Proved.{IsHeld, IsProof, IsUnderived}
use Rattle.vir_course.specs.Reports.{finding_text, underived}
use Rattle.vir_rules.specs.BadNodes.{BadNode, first_bad}
use Rattle.vir_rules.specs.Claims.{of}
use Rattle.vir_rules.specs.Derivations.{Valid}
use Rattle.vir_rules.specs.Reasons.{Reason}
use Rattle.vir_rules.specs.RuleTrees.{RuleTree}
use Rattle.vir_rules.specs.UnfitNames.{unfit_name}
use Rattle.vir_term.specs.declared.prop.Prop.{Prop}
use Rattle.vir_term.specs.Tree.{Tree}

-- ---- by a certificate

-- The text is a certificate of the property with its first derivation, so the property holds of the rule.
pub record IsCertified (term : Tree) (prop : Prop) (text : List ℕ) : Type 0 where
  pub derivation : RuleTree
  pub held : IsHeld term prop derivation
  pub text_is : text ≡ cert_text (record { term = term; prop = prop; derivation = derivation })

-- The property has no derivation, and the text gives the reasons.
pub record IsDenied (term : Tree) (prop : Prop) (text : List ℕ) : Type 0 where
  pub reasons : List Reason
  pub none : IsUnderived term prop reasons
  pub text_is : text ≡ finding_text prop (underived reasons)

-- ---- of a certificate

-- It is accepted: its derivation is valid, so its property holds of its term.
pub record IsAccepted (cert : Cert) (text : List ℕ) : Type 0 where
  pub proof : IsProof cert.term cert.prop cert.derivation
  pub text_is : text ≡ codes "accepted\n"

-- the line that names a bad node; a node past the greatest number that is told is told by that
abbrev pub refusal_text : BadNode → List ℕ
refusal_text bad =
    codes "refused node " ++ decimal (min bad.number 18446744073709551615) ++ codes ": " ++ unfit_name bad.why
    ++ codes "\n"

-- It is refused: its derivation isn't valid, and the text names the first bad node.
pub record IsRefused (cert : Cert) (text : List ℕ) : Type 0 where
  pub not_valid : Valid cert.derivation (of cert.prop cert.term) → ⊥
  pub bad : BadNode
  pub is_first : first_bad cert.derivation (of cert.prop cert.term) ≡ Some bad
  pub text_is : text ≡ refusal_text bad
