-- Values of the code, in the words of the definitions.
-- (The program's promises don't stand on this file.)
use Rattle.vir_term.specs.Tree.{tree}
use Rattle.vir_rules.specs.RuleTrees.{rule_tree}
use Rattle.vir_cert.specs.declared.certificate.Certificate.{Certificate}
use Rattle.vir_cert.specs.declared.derivation_reader.RuleAt.{RuleAt}
use Rattle.vir_cert.specs.Certs.{Cert}
use Rattle.vir_cert.specs.Derivations.{PlacedRule}

-- what a certificate of the code is
abbrev pub cert_seen : Certificate → Cert
cert_seen c = record { term = tree c.term; prop = c.prop; derivation = rule_tree c.derivation }

-- a rule and the place of its name
abbrev pub rule_seen : RuleAt → PlacedRule
rule_seen found = record { rule = found.rule; at = found.at }
