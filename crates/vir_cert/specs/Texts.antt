-- The text of a certificate.
use Rattle.std.specs.Prelude.{ℕ, ◌≤◌, Bool, true, false, not, ◌&&◌, ◌||◌, nat_le, if◌then◌else◌, List, ◌++◌, codes}
use Rattle.vir_term.specs.Tree.{Tree, leaf, rev, seq, par, loop, exactly, at_most}
use Rattle.vir_term.specs.Limits.{IsWithinLimits}
use Rattle.vir_term.specs.Text.{term_text}
use Rattle.vir_rules.specs.Claims.{of}
use Rattle.vir_rules.specs.Counts.{rule_count}
use Rattle.vir_rules.specs.Derivations.{Valid}
use Rattle.vir_rules.specs.Named.{IsPropInRange}
use Rattle.vir_rules.specs.Props.{prop_text}
use Rattle.vir_rules.specs.RuleTrees.{AreRules, RuleTree, RuleTrees, node, none, more, nesting}
use Rattle.vir_rules.specs.Texts.{derivation_text}
use Rattle.vir_cert.specs.declared.version.Version.{Version}
use Rattle.vir_cert.specs.declared.version.Version.TheVariants.{One, Two}
use Rattle.vir_cert.specs.Versions.{is_new_prop, last_rule, version_text}
use Rattle.vir_cert.specs.Certs.{Cert}

-- ---- the version

-- whether a term has an `until`
abbrev pub has_until : Tree → Bool
has_until (leaf l) = false
has_until (rev part) = has_until part
has_until (seq first second) = has_until first || has_until second
has_until (par first second) = has_until first || has_until second
has_until (loop (exactly k) body) = has_until body
has_until (loop (at_most k) body) = true

-- whether all rules of a derivation, and of several, are among the first so many
abbrev mutual
  pub has_rules_up_to : ℕ → RuleTree → Bool
  has_rules_up_to last (node rule children) = nat_le rule last && have_rules_up_to last children

  pub have_rules_up_to : ℕ → RuleTrees → Bool
  have_rules_up_to last none = true
  have_rules_up_to last (more first rest) = has_rules_up_to last first && have_rules_up_to last rest

-- the version that a certificate is printed in: the first one that has all that it names
abbrev pub version_of : Cert → Version
version_of c =
    if not (has_until c.term) && not (is_new_prop c.prop) && has_rules_up_to (last_rule One) c.derivation then One
    else Two

-- ---- the text

-- four lines: the header, the term, the property and the derivation
abbrev pub cert_text : Cert → List ℕ
cert_text c =
    codes "virage-certificate " ++ version_text (version_of c) ++ codes "\nterm " ++ term_text c.term
    ++ codes "\nproperty " ++ prop_text c.prop ++ codes "\nderivation " ++ derivation_text c.derivation ++ codes "\n"

-- a certificate that a text can be, if that isn't too long
pub record IsCert (c : Cert) : Type 0 where
  pub term : IsWithinLimits c.term
  pub prop : IsPropInRange c.prop
  pub rules : AreRules rule_count c.derivation
  pub flat : nesting c.derivation ≤ 256

-- a certificate whose derivation derives its property of its term
abbrev pub IsValid : Cert → Type 0
IsValid c = Valid c.derivation (of c.prop c.term)
